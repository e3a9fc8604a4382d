-- `short_by` is 1 where there are p - 1 columns.
use borrow.Author.Tests.{eq-eqb, ne_eqb}
use Rattle.wcdma_powers.proofs.short_by.Goals as goal

pub returns-then-c-p : goal.returns-then-c-p
returns-then-c-p c = rw (eq-eqb _ _ c.if-c-p.true)

pub returns-else-c-p : goal.returns-else-c-p
returns-else-c-p c = rw (ne_eqb _ _ c.if-c-p.false)
