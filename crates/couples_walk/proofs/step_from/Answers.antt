-- `couples_walk::step_from` is one of the four steps.
use Rattle.couples_walk.specs.Spot.{onward_is}
use Rattle.couples_walk.proofs.step_from.Goals as goal

pub returns : goal.returns
returns c =
    let a = c.args in
    onward_is a.couples a.j c.offset_of-old.ensures.0 c.offset_of-new.ensures.0
