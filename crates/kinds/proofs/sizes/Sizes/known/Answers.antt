-- 1 and 2 are known.
use borrow.Author.Tests.{eq-eqb, ne_eqb}
use Rattle.kinds.specs.Kinds.{known}
use Rattle.kinds.proofs.sizes.Sizes.known.Goals as goal

pub returns-then-kind-eq-DVB : goal.returns-then-kind-eq-DVB
unfolding known
returns-then-kind-eq-DVB c = rw (eq-eqb _ _ c.if-kind-eq-DVB.true)

pub returns-else-kind-eq-DVB : goal.returns-else-kind-eq-DVB
unfolding known
returns-else-kind-eq-DVB c = rw (ne_eqb _ _ c.if-kind-eq-DVB.false)
