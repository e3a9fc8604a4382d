-- `rows` puts the lines of a range.
use native.Mathlib.Omega.{arith}
use Rattle.report_pages.specs.Lines.{rows_none, rows_more}
use Rattle.report_pages.proofs.text.rows.Goals as goal

pub loop-k-init : goal.loop-k-init
loop-k-init c = rows_none c.requires _

pub loop-k-preserved : goal.loop-k-preserved
loop-k-preserved c =
    rows_more c.requires c.loop-k.invariant (omega arith) c.row_of.ensures
