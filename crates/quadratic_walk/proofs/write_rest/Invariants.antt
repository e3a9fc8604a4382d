-- `quadratic_walk::write_rest` goes on with a walk, whichever it is, to its count.
use Rattle.laws.specs.Resting.{Resting}
use Rattle.quadratic_walk.specs.Spot.{SpotIn, spots}
use Rattle.quadratic_walk.proofs.write_rest.Given as goal

abbrev pub invariant-loop-i : goal.invariant-loop-i
invariant-loop-i l = Resting (spots l.k l.twice) (SpotIn l.k l.twice) l.k l.count l.from l.initial.at l.initial.out l.out l.at l.i
