-- `plan_judge::compare` goes from piece to piece. The loop's invariant: the positions before the next piece are tallied; the measure is those that are left.
use mathlib.Core.Path.{◌≡◌}
use Prim.Native.Nat.{◌-◌}
use lib.ListN.{length}
use Rattle.plan_form.specs.Lists.{list_at}
use Rattle.plan_judge.specs.Tally.{Comparing}
use Rattle.plan_judge.proofs.compare.Given as goal

abbrev pub invariant-loop-w : goal.invariant-loop-w
invariant-loop-w l = (length l.piece ≡ length l.initial.piece) × Comparing l.set (list_at l.file l.list) l.w l.tally

abbrev pub decreases-loop-w : goal.decreases-loop-w
decreases-loop-w l = l.n - l.w.at
