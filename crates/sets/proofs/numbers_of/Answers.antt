-- `sets::numbers_of` is the numbers of its profile.
use Rattle.sets.specs.Set.{numbers_of}
use Rattle.sets.proofs.numbers_of.Goals as goal

pub returns : goal.returns
unfolding numbers_of
returns c = c.numbers_by.ensures
