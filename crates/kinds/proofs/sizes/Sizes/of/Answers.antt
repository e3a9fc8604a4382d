-- The numbers of a kind.
use borrow.Author.Tests.{eq-eqb, ne_eqb}
use Rattle.kinds.specs.Kinds.{sizes_of, sized}
use Rattle.kinds.proofs.sizes.Sizes.of.Goals as goal

pub returns-then-kind-eq-DVB : goal.returns-then-kind-eq-DVB
unfolding sizes_of
returns-then-kind-eq-DVB c = sized _ _ (rw (eq-eqb _ _ c.if-kind-eq-DVB.true))

pub returns-else-kind-eq-DVB : goal.returns-else-kind-eq-DVB
unfolding sizes_of
returns-else-kind-eq-DVB c = sized _ _ (rw (ne_eqb _ _ c.if-kind-eq-DVB.false))
