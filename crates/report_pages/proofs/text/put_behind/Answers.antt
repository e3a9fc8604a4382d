-- `put_behind` puts the text of what the bytes ask for.
use mathlib.Core.Path.{◌≡◌, ap, sym, ◌∙◌}
use Rattle.laws.specs.Outcome.{done, say}
use Rattle.words.specs.Puts.{put_as}
use Rattle.report_asked.specs.Asked.{asked_by}
use Rattle.report_asked.specs.Exactly.{asked_exactly}
use Rattle.report_pages.specs.Text.{text_of, answer_text}
use Rattle.report_pages.proofs.text.put_behind.Goals as goal

pub put_report-requires : goal.put_report-requires
put_report-requires c =
    let asked : done c.in-Ok.r ≡ asked_by c.args.bytes.now = sym (ap say c.in-Ok.is) ∙ c.read.ensures in
    ((asked_exactly _ _ _).0 (sym asked)).1

pub returns-in-Ok : goal.returns-in-Ok
unfolding answer_text
returns-in-Ok c =
    let asked : done c.in-Ok.r ≡ asked_by c.args.bytes.now = sym (ap say c.in-Ok.is) ∙ c.read.ensures in
    put_as (ap text_of asked) c.put_report.ensures

pub returns-in-Err : goal.returns-in-Err
unfolding answer_text
returns-in-Err c =
    put_as (ap text_of (sym (ap say c.in-Err.is) ∙ c.read.ensures)) c.put_refusal.ensures
