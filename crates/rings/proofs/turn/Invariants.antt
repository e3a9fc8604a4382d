-- The invariant: of the ring, the bytes below i are moved, place is where byte i goes, and left bytes are still to come.
use Prim.Native.Nat.{◌-◌}
use lib.ListN.{length}
use Rattle.delay.specs.Lane.{Left}
use Rattle.delay.specs.Loops.{Rounds}
use Rattle.rings.proofs.turn.Given as goal

abbrev pub invariant-loop-left : goal.invariant-loop-left
invariant-loop-left l =
    Rounds l.branches l.first l.last l.input l.initial.store l.initial.out l.initial.i l.initial.place l.store l.out l.i l.place × Left l.branches (length l.input - l.i) l.left

abbrev pub decreases-loop-left : goal.decreases-loop-left
decreases-loop-left l = l.left
