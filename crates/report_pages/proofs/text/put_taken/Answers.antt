-- `put_taken` puts the text of what was read.
use mathlib.Core.Path.{ap}
use Rattle.words.specs.Puts.{put_as}
use Rattle.report_pages.specs.Text.{answer_text}
use Rattle.report_pages.proofs.text.put_taken.Goals as goal

pub returns : goal.returns
returns c = put_as (ap answer_text c.first.ensures) c.put_answer.ensures
