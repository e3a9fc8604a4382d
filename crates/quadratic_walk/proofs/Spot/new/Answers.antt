-- `quadratic_walk::Spot::new` sets the walk up at a position.
use Rattle.quadratic_walk.specs.Spot.{spot_new}
use Rattle.quadratic_walk.proofs.Spot.new.Goals as goal

pub returns : goal.returns
returns c = spot_new c.args.q.k c.args.q.f1 c.args.q.f2 c.args.t
