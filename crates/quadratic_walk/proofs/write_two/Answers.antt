-- `quadratic_walk::write_two` is two steps of the walk, wherever it stands.
use Rattle.laws.specs.Resting.{walk_two}
use Rattle.quadratic_walk.specs.Spot.{spots, step_of}
use Rattle.quadratic_walk.proofs.write_two.Goals as goal

pub returns : goal.returns
returns c = λ f1 f2 cell count old h g.
    walk_two (spots _ _) (f1, f2) h (step_of c.next-second.ensures.one_on) (step_of c.next.ensures.one_on) g
