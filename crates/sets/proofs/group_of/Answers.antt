-- `sets::group_of` is s of its bits, and s is 1, 2 or 3.
use Rattle.sets.specs.Set.{group_of}
use Rattle.sets.proofs.group_of.Goals as goal

pub returns : goal.returns
unfolding group_of
returns c = record { value = c.group_by.ensures.value; result_nonzero = c.group_by.ensures.result_nonzero }
