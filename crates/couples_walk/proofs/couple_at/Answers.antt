-- `couples_walk::couple_at` is P at an output.
use Rattle.couples_walk.specs.Spot.{couple_is}
use Rattle.couples_walk.proofs.couple_at.Goals as goal

pub returns : goal.returns
returns c = let a = c.args in couple_is a.couples a.j c.offset_of.ensures.0
