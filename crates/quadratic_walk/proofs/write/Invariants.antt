-- `quadratic_walk::write` writes L from any cell on, four positions after another, and then the rest.
use Prim.Native.Nat.{◌*◌}
use mathlib.Core.Path.{◌≡◌}
use Rattle.quadratic_walk.specs.Spot.{Walking}
use Rattle.quadratic_walk.proofs.write.Given as goal

abbrev pub invariant-fours : goal.invariant-fours
invariant-fours l = Walking l.q.k l.q.f1 l.q.f2 l.cell l.count l.twice l.initial.out l.out l.at l.i × (l.i ≡ 4 * l.counter)
