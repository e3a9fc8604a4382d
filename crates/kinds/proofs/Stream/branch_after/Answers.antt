-- The branch is a sum modulo the branches.
use Rattle.kinds.proofs.Stream.branch_after.Goals as goal

pub returns : goal.returns
returns c = rw (← c.of-b.ensures.branches) c.plus.ensures
