-- `profiles::family_by` is what the entry of the number has.
use Rattle.profiles.specs.Entered.{family_entered}
use Rattle.profiles.proofs.family_by.Goals as goal

pub returns : goal.returns
returns c = family_entered _ _ c.family.ensures
