-- `plan_writer::put_list` goes from piece to piece. The loop's invariant: what was walked is stored; the measure is what is left of L.
use mathlib.Core.Path.{◌≡◌}
use Prim.Native.Nat.{◌-◌}
use lib.ListN.{length}
use Rattle.plan_writer.specs.Listing.{Filing}
use Rattle.plan_writer.proofs.put_list.Given as goal

abbrev pub invariant-loop-w : goal.invariant-loop-w
invariant-loop-w l = (length l.piece ≡ length l.initial.piece) × Filing l.set l.initial.out l.at l.w l.out

abbrev pub decreases-loop-w : goal.decreases-loop-w
decreases-loop-w l = l.n - l.w.at
