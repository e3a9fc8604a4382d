-- `couples_walk::write_rest` goes on with a walk, from whichever cell it came, to its count.
use Rattle.laws.specs.Resting.{rest_next, rest_all}
use Rattle.couples_walk.proofs.write_rest.Goals as goal

pub loop-i-preserved : goal.loop-i-preserved
loop-i-preserved c = rest_next c.loop-i.invariant c.loop-i-test.true c.next-at.ensures.step_of c.next-at.ensures.spot_in

pub returns : goal.returns
returns c = rest_all c.loop-i.invariant c.loop-i-test.false tt
