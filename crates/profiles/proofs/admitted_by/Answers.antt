-- `profiles::admitted_by` is what the entry of the number has.
use Rattle.profiles.specs.Entered.{admitted_entered}
use Rattle.profiles.proofs.admitted_by.Goals as goal

pub returns : goal.returns
returns c = admitted_entered _ _ c.admitted.ensures
