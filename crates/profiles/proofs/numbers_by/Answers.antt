-- `profiles::numbers_by` is what the entry of the number has.
use Rattle.profiles.specs.Entered.{numbers_entered}
use Rattle.profiles.proofs.numbers_by.Goals as goal

pub returns : goal.returns
returns c = numbers_entered _ _ c.numbers.ensures
