-- `sets::test` says what the line that applies first says.
use mathlib.Core.Path.{sym, ap, ◌∙◌}
use Rattle.laws.specs.Outcome.{refused}
use Rattle.sets.specs.Verdict.{clear_accepts, stopped_refuses}
use Rattle.sets.proofs.test.Goals as goal

pub returns-in-Ok : goal.returns-in-Ok
returns-in-Ok c = sym (clear_accepts _ (sym c.in-Ok.ensures))

pub returns-in-Err : goal.returns-in-Err
returns-in-Err c = ap refused c.refusal_of.ensures ∙ sym (stopped_refuses _ (sym c.in-Err.ensures))
