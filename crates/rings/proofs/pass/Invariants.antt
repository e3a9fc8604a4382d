-- The invariant: the bytes of ring 0 below i are passed through.
use Prim.Native.Nat.{◌-◌}
use lib.ListN.{length}
use Rattle.delay.specs.Loops.{Passing}
use Rattle.rings.proofs.pass.Given as goal

abbrev pub invariant-loop-i : goal.invariant-loop-i
invariant-loop-i l = Passing l.branches l.from l.input l.initial.out l.out l.i

abbrev pub decreases-loop-i : goal.decreases-loop-i
decreases-loop-i l = length l.input - l.i
