-- `sets::verdict_size` asks for the size where the line that applies first is 3's.
use mathlib.Core.Path.{sym, ap, ◌∙◌}
use borrow.Author.Tests.{eq-eqb, ne_eqb}
use Rattle.sets.specs.Verdict.{refusal, fitting_of, clear_accepts, stopped_refuses}
use Rattle.sets.proofs.verdict_size.Goals as goal

pub returns-in-Err-eq3 : goal.returns-in-Err-eq3
unfolding refusal
returns-in-Err-eq3 c =
    c.fitting_of.ensures
    ∙ sym (simp (eq-eqb _ 3 c.in-Err-eq3.field-0-test))
    ∙ sym (ap fitting_of (stopped_refuses _ (sym c.in-Err-eq3.ensures)))

pub returns-in-Err : goal.returns-in-Err
unfolding refusal
returns-in-Err c =
    sym (simp (ne_eqb _ 3 c.in-Err.field-0-test.1))
    ∙ sym (ap fitting_of (stopped_refuses _ (sym c.in-Err.ensures)))

pub returns-in-Ok : goal.returns-in-Ok
returns-in-Ok c = sym (ap fitting_of (clear_accepts _ (sym c.in-Ok.ensures)))
