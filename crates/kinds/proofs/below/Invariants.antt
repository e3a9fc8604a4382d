-- The invariant: ok tells whether the places below i are below their limits, and most is the limit of place i.
use Rattle.kinds.specs.Judging.{Judging}
use Rattle.kinds.proofs.below.Given as goal

abbrev pub invariant-loop-i : goal.invariant-loop-i
invariant-loop-i l = Judging l.places l.from l.to l.limit l.step l.ok l.most l.i
