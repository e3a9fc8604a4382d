-- `total_of` puts the totals of a range.
use mathlib.Core.Path.{ap, sym, ◌∙◌}
use Rattle.laws.specs.Outcome.{say}
use Rattle.words.specs.Puts.{put_as}
use Rattle.report_pages.specs.Text.{total_text}
use Rattle.wcdma_report.specs.Refusals.{totals_given}
use Rattle.report_pages.specs.Lines.{given_is, given_only}
use Rattle.report_pages.proofs.text.total_of.Goals as goal

pub returns-in-Ok : goal.returns-in-Ok
returns-in-Ok c =
    put_as (ap total_text (given_is (totals_given c.requires) (sym (ap say c.in-Ok.is) ∙ c.totals_of.ensures))) c.total.ensures

pub returns-in-Err : goal.returns-in-Err
returns-in-Err c =
    absurd (given_only (totals_given c.requires) (sym (ap say c.in-Err.is) ∙ c.totals_of.ensures))
