-- `couples_walk::write` writes P from any cell on, four couples after another, and then the rest.
use Prim.Native.Nat.{◌*◌}
use mathlib.Core.Path.{◌≡◌}
use Rattle.couples_walk.specs.Spot.{Walking}
use Rattle.couples_walk.proofs.write.Given as goal

abbrev pub invariant-fours : goal.invariant-fours
invariant-fours l = Walking l.couples l.cell l.count l.initial.out l.out l.at l.i × (l.i ≡ 4 * l.counter)
