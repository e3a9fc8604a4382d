-- `rows` puts the lines of a range.
use Rattle.report_pages.specs.Lines.{Rows}
use Rattle.report_pages.proofs.text.rows.Given as goal

abbrev pub invariant-loop-k : goal.invariant-loop-k
invariant-loop-k l = Rows l.initial.text l.first l.last l.text l.k
