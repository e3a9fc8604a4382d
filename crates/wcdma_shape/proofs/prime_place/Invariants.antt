-- `prime_place` is where p stands in the table.
use Rattle.wcdma_shape.proofs.Cases.{Seeking}
use Rattle.wcdma_shape.proofs.prime_place.Given as goal

abbrev pub invariant-loop-n : goal.invariant-loop-n
invariant-loop-n l = Seeking l.k l.r l.n
