-- `entry_at` is U(j), case by case.
use borrow.Author.Tests.{eq-eqb, le-ltb, lt-ltb, ne_eqb}
use Rattle.wcdma_cells.proofs.entry_at.Goals as goal

pub returns-then-j-p : goal.returns-then-j-p
returns-then-j-p c = rw (lt-ltb _ _ c.if-j-p.true)

pub returns-then-j-p-2 : goal.returns-then-j-p-2
returns-then-j-p-2 c = rw (le-ltb _ _ c.if-j-p.false, eq-eqb _ _ c.if-j-p-2.true)

pub returns : goal.returns
returns c = rw (le-ltb _ _ c.if-j-p.false, ne_eqb _ _ c.if-j-p-2.false)
