-- `flat::records::record_of` reads the numbers. The invariant: the first i places are those that are lent.
use mathlib.Core.Path.{◌≡◌}
use native.Mathlib.Nat.{zero-add}
use native.Mathlib.Omega.{arith}
use Rattle.laws.specs.Fill.{filled_more, filled_all}
use Rattle.flat.specs.Flat.{stream_of}
use Rattle.flat.proofs.records.record_of.Goals as goal

pub loop-i-preserved : goal.loop-i-preserved
loop-i-preserved c =
    let i = c.loop-i.i in
    filled_more _ _ _ _ _ _ c.loop-i.invariant (omega arith) (rw (zero-add i))

pub returns : goal.returns
unfolding stream_of
returns c =
    let e : c.loop-i.i ≡ 51 = omega arith in
    rw (filled_all _ _ _ _ (rw e at c.loop-i.invariant))
