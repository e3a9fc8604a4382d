-- `couples_walk::write_two` is two steps of the walk, wherever it stands.
use Rattle.laws.specs.Resting.{walk_two}
use Rattle.couples_walk.specs.Spot.{spots}
use Rattle.couples_walk.proofs.write_two.Goals as goal

pub returns : goal.returns
returns c = λ cell count old h g. walk_two (spots _) tt h c.next-second.ensures.step_of c.next.ensures.step_of g
