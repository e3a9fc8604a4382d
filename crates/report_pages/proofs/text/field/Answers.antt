-- `field` puts a number and what stands behind it.
use Rattle.words.specs.Puts.{put_join, number_put}
use Rattle.report_pages.specs.Text.{field_text}
use Rattle.report_pages.proofs.text.field.Goals as goal

pub returns : goal.returns
unfolding field_text
returns c = put_join (number_put c.put_number.ensures) c.put.ensures
