-- A feed, ring by ring. The invariant: the rings below x are done, and first is where ring x begins.
use Rattle.streams.specs.Feeding.{Serving}
use Rattle.streams.proofs.run.Given as goal

abbrev pub invariant-loop-x : goal.invariant-loop-x
invariant-loop-x l =
    Serving l.way l.s l.z l.initial.store l.input l.store l.out l.places l.first l.size l.x
