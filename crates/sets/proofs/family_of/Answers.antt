-- `sets::family_of` is the family of its profile.
use Rattle.sets.specs.Set.{family_of}
use Rattle.sets.proofs.family_of.Goals as goal

pub returns : goal.returns
unfolding family_of
returns c = c.family_by.ensures
