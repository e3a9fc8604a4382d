-- `total` puts the last line: a word and three numbers.
use Rattle.words.specs.Puts.{put_join}
use Rattle.report_pages.specs.Text.{total_text}
use Rattle.report_pages.proofs.text.total.Goals as goal

pub returns : goal.returns
unfolding total_text
returns c =
    put_join c.put.ensures (put_join c.field.ensures (put_join c.field-2.ensures c.field-3.ensures))
