-- `figures::decimal::reduced` ends: the halvings fall.
use Prim.Native.Nat.{◌≤◌}
use Rattle.figures.proofs.decimal.reduced.Given as goal

abbrev pub invariant-loop-down : goal.invariant-loop-down
invariant-loop-down l = l.down ≤ 149

abbrev pub decreases-loop-down : goal.decreases-loop-down
decreases-loop-down l = l.down
