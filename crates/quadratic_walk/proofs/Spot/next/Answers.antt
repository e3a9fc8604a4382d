-- `quadratic_walk::Spot::next` is one position on, whatever the position.
use Rattle.quadratic_walk.specs.Spot.{spot_next, spot_next_in}
use Rattle.quadratic_walk.proofs.Spot.next.Goals as goal

pub returns : goal.returns
returns c =
    let a = c.args in record { one_on = λ f1 f2 t e p. spot_next a.k f1 f2 t a.twice e p c.plus-value.ensures c.plus-delta.ensures; spot_in = spot_next_in c.requires c.plus-value.ensures c.plus-delta.ensures }
