-- `couples_walk::write_rest` goes on with a walk, from whichever cell it came, to its count.
use Rattle.laws.specs.Resting.{Resting}
use Rattle.couples_walk.specs.Spot.{SpotIn, spots}
use Rattle.couples_walk.proofs.write_rest.Given as goal

abbrev pub invariant-loop-i : goal.invariant-loop-i
invariant-loop-i l = Resting (spots l.couples) (SpotIn l.couples) l.couples.n l.count l.from l.initial.at l.initial.out l.out l.at l.i
