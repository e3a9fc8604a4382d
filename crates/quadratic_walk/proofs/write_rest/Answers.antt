-- `quadratic_walk::write_rest` goes on with a walk, whichever it is, to its count.
use Rattle.laws.specs.Resting.{rest_next, rest_all}
use Rattle.quadratic_walk.specs.Spot.{step_of}
use Rattle.quadratic_walk.proofs.write_rest.Goals as goal

pub loop-i-preserved : goal.loop-i-preserved
loop-i-preserved c =
    rest_next c.loop-i.invariant c.loop-i-test.true (step_of c.next-at.ensures.one_on) c.next-at.ensures.spot_in

pub returns : goal.returns
returns c = λ f1 f2. rest_all c.loop-i.invariant c.loop-i-test.false (f1, f2)
