-- `row` puts a line: five numbers.
use Rattle.words.specs.Puts.{put_join}
use Rattle.report_pages.specs.Text.{row_text}
use Rattle.report_pages.proofs.text.row.Goals as goal

pub returns : goal.returns
unfolding row_text
returns c =
    put_join c.field.ensures (put_join c.field-2.ensures (put_join c.field-3.ensures (put_join c.field-4.ensures c.field-5.ensures)))
