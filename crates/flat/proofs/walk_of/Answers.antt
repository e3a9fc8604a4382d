-- `flat::walk_of` makes the record of the set and the cell.
use Rattle.flat.specs.Flat.{walk_of}
use Rattle.flat.proofs.walk_of.Goals as goal

pub returns : goal.returns
unfolding walk_of
returns c = rw (← c.set_of-set.ensures)
