-- `tables::judge` meets its contract: each return by what the test of the set says, and by the two lengths.
use mathlib.Core.Path.{sym, ap, ◌∙◌}
use Rattle.laws.specs.Outcome.{refused}
use Rattle.sets.specs.Verdict.{say_ruled, clear_accepts, stopped_refuses}
use Rattle.sets.specs.Admits.{Accepted}
use Rattle.tables.proofs.Passed.{block_refused, is_five, is_six, block_served}
use Rattle.tables.proofs.judge.Goals as goal

pub returns-then-input-total : goal.returns-then-input-total
returns-then-input-total c =
    let accepted : Accepted c.args.set = clear_accepts _ (sym c.ruling_of.ensures ∙ ap say_ruled c.in_default.is) in
    is_five _ _ _ _ accepted c.length_of-total.ensures c.if-input-total.true c.refusal_of-then-input-total.ensures

pub returns-then-output-total : goal.returns-then-output-total
returns-then-output-total c =
    let accepted : Accepted c.args.set = clear_accepts _ (sym c.ruling_of.ensures ∙ ap say_ruled c.in_default.is) in
    is_six _ _ _ _ accepted c.length_of-total.ensures c.if-input-total.false c.if-output-total.true c.refusal_of-then-output-total.ensures

pub returns-in-Err : goal.returns-in-Err
returns-in-Err c =
    ap refused c.refusal_of.ensures
    ∙ block_refused _ _ _ _ (stopped_refuses _ (sym c.in-Err.ensures))

pub returns : goal.returns
returns c =
    let accepted : Accepted c.args.set = clear_accepts _ (sym c.ruling_of.ensures ∙ ap say_ruled c.in_default.is) in
    let e = c.length_of-total.ensures in
    sym (block_served _ _ accepted (c.if-input-total.false ∙ e) (c.if-output-total.false ∙ e))

pub length_of-total-requires : goal.length_of-total-requires
length_of-total-requires c =
    let accepted : Accepted c.args.set = clear_accepts _ (sym c.ruling_of.ensures ∙ ap say_ruled c.in_default.is) in
    accepted
