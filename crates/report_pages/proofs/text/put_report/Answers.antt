-- `put_report` puts the head, the lines and the totals.
use Rattle.words.specs.Puts.{put_join}
use Rattle.report_pages.specs.Text.{head_text, report_text}
use Rattle.report_pages.proofs.text.put_report.Goals as goal

pub returns : goal.returns
unfolding report_text head_text
returns c =
    put_join c.put.ensures (put_join c.rows.ensures c.total_of.ensures)
