-- The invariant: since the stretch began, the bytes below i are moved, and place is where byte i goes.
use Prim.Native.Nat.{◌+◌}
use Rattle.delay.specs.Loops.{Stretching}
use Rattle.rings.proofs.moves.Given as goal

abbrev pub invariant-loop-place : goal.invariant-loop-place
invariant-loop-place l = Stretching l.branches l.input l.initial.store l.initial.out l.initial.i l.at (l.at + l.count) l.store l.out l.i l.place
