-- `combine::read` meets its contract: each return by what the test of the set says, by the position, and by the two lengths.
use mathlib.Core.Path.{sym, ap, ◌∙◌}
use Rattle.laws.specs.Outcome.{refused}
use Rattle.sets.specs.Verdict.{clear_accepts, stopped_refuses}
use Rattle.combine.specs.Passed.{is_plain}
use Rattle.combine.specs.Reads.{is_one, set_refuses, is_four, is_six, is_told}
use Rattle.combine.proofs.read.Goals as goal

pub returns-in-Err : goal.returns-in-Err
returns-in-Err c = is_one _ _ _ c.in-Err.ensures

pub returns-in-Err-ruling_of : goal.returns-in-Err-ruling_of
returns-in-Err-ruling_of c = ap refused c.refusal_of.ensures ∙ set_refuses _ _ _ (is_plain _ c.in_default.ensures) (stopped_refuses _ (sym c.in-Err-ruling_of.ensures))

pub returns-then-position-set : goal.returns-then-position-set
returns-then-position-set c =
    is_four _ _ _ (is_plain _ c.in_default.ensures) (clear_accepts _ (sym c.in_default-ruling_of.ensures)) c.if-position-set.true c.refusal_of-then-position-set.ensures

pub returns-then-off-set : goal.returns-then-off-set
returns-then-off-set c =
    is_six _ _ _ (is_plain _ c.in_default.ensures) (clear_accepts _ (sym c.in_default-ruling_of.ensures)) c.if-position-set.false
    (λ q. c.if-off-set.true (c.off.ensures ∙ q)) c.refusal_of-then-off-set.ensures

pub returns : goal.returns
returns c =
    c.reading_at.ensures ∙ is_told _ _ _ (is_plain _ c.in_default.ensures) (clear_accepts _ (sym c.in_default-ruling_of.ensures)) c.if-position-set.false
    (sym c.off.ensures ∙ c.if-off-set.false)
