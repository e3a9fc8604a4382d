-- Behind the test of a set: a refused set is refused by every call, and of an accepted one what its leaf says is the answer; of an address, where the
-- position is below N.
-- Here stand the definitions; what is said of them is proved in proofs/Passed.antt.
use Rattle.std.specs.Prelude.{◌+◌}
use Rattle.laws.specs.declared.Went.{Went}
use Rattle.walks.specs.declared.Walk.{Walk}
use Rattle.walks.specs.declared.Values.{Values}
use Rattle.walks.specs.Answer.{values}

-- the values of a walk, from what its leaf counts
abbrev pub onward : Walk → Went → Values
onward w c = values c.written (record { set = w.set; cell = w.cell + c.cells }) c.cells
