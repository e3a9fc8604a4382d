-- `channel::distance` meets its contract: how far the two places lie apart.
use Rattle.channel.specs.Nearest.{apart}
use Rattle.channel.proofs.distance.Goals as goal

pub returns : goal.returns
unfolding apart
returns c = rw (c.abs_diff.ensures, c.place-u.ensures, c.place-v.ensures)
