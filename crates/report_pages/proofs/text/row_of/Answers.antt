-- `row_of` puts the line of a size.
use mathlib.Core.Path.{ap, sym, ◌∙◌}
use Rattle.laws.specs.Outcome.{say}
use Rattle.words.specs.Puts.{put_as}
use Rattle.report_pages.specs.Text.{row_text}
use Rattle.wcdma_report.specs.Refusals.{figures_given}
use Rattle.report_pages.specs.Lines.{given_is, given_only}
use Rattle.report_pages.proofs.text.row_of.Goals as goal

pub returns-in-Ok : goal.returns-in-Ok
returns-in-Ok c =
    put_as (ap row_text (given_is (figures_given c.requires) (sym (ap say c.in-Ok.is) ∙ c.figures_of.ensures))) c.row.ensures

pub returns-in-Err : goal.returns-in-Err
returns-in-Err c =
    absurd (given_only (figures_given c.requires) (sym (ap say c.in-Err.is) ∙ c.figures_of.ensures))
