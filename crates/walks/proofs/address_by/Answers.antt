-- `walks::address_by` meets its contract: a refused set is refused, then a position that is N or more, and else it is the family's address.
use mathlib.Core.Path.{sym, ap, ◌∙◌}
use native.Mathlib.Omega.{arith}
use Rattle.laws.specs.Outcome.{refused}
use Rattle.sets.specs.Verdict.{say_ruled, clear_accepts, stopped_refuses}
use Rattle.sets.specs.Admits.{Accepted}
use Rattle.walks.proofs.Passed.{one_refused, one_past, one_found, one_small}
use Rattle.walks.proofs.address_by.Goals as goal

pub returns-then-x-set : goal.returns-then-x-set
returns-then-x-set c =
    let accepted : Accepted c.args.set = clear_accepts _ (sym c.ruling_of.ensures ∙ ap say_ruled c.in_default.is) in
    one_past _ _ _ accepted c.if-x-set.true c.refusal_of-then-x-set.ensures

pub address-requires : goal.address-requires
address-requires c =
    let accepted : Accepted c.args.set = clear_accepts _ (sym c.ruling_of.ensures ∙ ap say_ruled c.in_default.is) in
    (accepted, omega (arith, c.if-x-set.false))

pub returns-in-Err : goal.returns-in-Err
returns-in-Err c =
    ap refused c.refusal_of.ensures
    ∙ one_refused _ _ _ (stopped_refuses _ (sym c.in-Err.ensures))

pub returns : goal.returns
returns c =
    let accepted : Accepted c.args.set = clear_accepts _ (sym c.ruling_of.ensures ∙ ap say_ruled c.in_default.is) in
    one_found _ _ _ accepted (omega (arith, c.if-x-set.false)) c.address.ensures

pub overflow_cast-result : goal.overflow_cast-result
overflow_cast-result c =
    let accepted : Accepted c.args.set = clear_accepts _ (sym c.ruling_of.ensures ∙ ap say_ruled c.in_default.is) in
    let a = c.args in
    omega (arith, c.address.ensures, one_small a.way a.set a.x accepted (omega (arith, c.if-x-set.false)))
