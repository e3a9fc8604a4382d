-- `couples_walk::Spot::next` is one output on, whatever the output.
use Rattle.couples_walk.specs.Spot.{turned_in, spot_next}
use Rattle.couples_walk.proofs.Spot.next.Goals as goal

pub returns : goal.returns
returns c = record { step_of = λ x t r p. spot_next r p c.plus-value.ensures; spot_in = turned_in c.requires c.plus-value.ensures }
