-- `first_exponent` is the exponent of a row where a walk starts.
use borrow.Author.Tests.{le-ltb, lt-ltb}
use Rattle.wcdma_rows.proofs.first_exponent.Goals as goal

pub returns-then-x-i : goal.returns-then-x-i
returns-then-x-i c = rw (lt-ltb _ _ c.if-x-i.true)

pub returns-else-x-i : goal.returns-else-x-i
returns-else-x-i c = rw (le-ltb _ _ c.if-x-i.false)
