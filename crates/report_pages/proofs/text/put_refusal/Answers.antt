-- `put_refusal` puts a word and the number.
use Rattle.words.specs.Puts.{put_join}
use Rattle.report_pages.specs.Text.{refusal_text}
use Rattle.report_pages.proofs.text.put_refusal.Goals as goal

pub returns : goal.returns
unfolding refusal_text
returns c = put_join c.put.ensures c.field.ensures
