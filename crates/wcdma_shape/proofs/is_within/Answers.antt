-- `is_within` is the test of a range.
use borrow.Author.Tests.{le-leb, lt-leb}
use Rattle.wcdma_shape.proofs.is_within.Goals as goal

pub returns-then-a-k : goal.returns-then-a-k
returns-then-a-k c = rw (le-leb _ _ c.if-a-k.true)

pub returns-else-a-k : goal.returns-else-a-k
returns-else-a-k c = rw (lt-leb _ _ c.if-a-k.false)
