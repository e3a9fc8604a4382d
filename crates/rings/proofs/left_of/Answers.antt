-- One of a ring's bytes in each turn, and one in the rest.
use borrow.Author.Tests.{lt-ltb, le-ltb}
use Rattle.delay.specs.Lane.{count_of}
use Rattle.rings.proofs.left_of.Goals as goal

pub returns-then-from-rest : goal.returns-then-from-rest
unfolding count_of
returns-then-from-rest c = rw (lt-ltb _ _ c.if-from-rest.true)

pub returns-else-from-rest : goal.returns-else-from-rest
unfolding count_of
returns-else-from-rest c = rw (le-ltb _ _ c.if-from-rest.false)
