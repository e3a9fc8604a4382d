-- The rows of the standard's table are those of the listed sizes, and the test of a set accepts every row: one computed law over the table. Rests on
-- Standard.
-- Here stand the definitions; what is said of them is proved in proofs/Accepted.antt.
use Rattle.sets.specs.declared.Set.{Set}
use Rattle.lte.specs.Standard.{Row}
use Rattle.lte.specs.Factors.{two, lte_with}

-- the set of a row
abbrev pub set_of : Row → Set
set_of r = lte_with r.size (two r.first r.second)
