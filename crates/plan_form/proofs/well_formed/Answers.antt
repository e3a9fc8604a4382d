-- `plan_form::well_formed` says whether a file is of the form: each return by the tests that led there.
use Rattle.plan_form.specs.Meets.{too_long, too_short, no_plan, many_plans, header_cut, by_lists}
use mathlib.Core.Path.{◌∙◌}
use native.Mathlib.Omega.{arith}
use Rattle.plan_form.proofs.well_formed.Goals as goal

pub returns-then-len-gt-ROOM : goal.returns-then-len-gt-ROOM
returns-then-len-gt-ROOM c = too_long _ c.if-len-gt-ROOM.true

pub returns-then-len-lt4 : goal.returns-then-len-lt4
returns-then-len-lt4 c = too_short _ c.if-len-gt-ROOM.false c.if-len-lt4.true

pub returns-then-plans-lt1 : goal.returns-then-plans-lt1
returns-then-plans-lt1 c = no_plan _ c.if-len-gt-ROOM.false c.if-len-lt4.false c.plans_in-plans.ensures.0 c.if-plans-lt1.true

pub returns-then-plans-gt-PLANS : goal.returns-then-plans-gt-PLANS
returns-then-plans-gt-PLANS c = many_plans _ c.if-len-gt-ROOM.false c.if-len-lt4.false c.plans_in-plans.ensures.0 c.if-plans-lt1.false (omega (arith, c.if-plans-gt-PLANS.true))

pub returns-then-len-plans : goal.returns-then-len-plans
returns-then-len-plans c = header_cut _ c.if-len-gt-ROOM.false c.if-len-lt4.false c.plans_in-plans.ensures.0 c.if-plans-lt1.false c.if-plans-gt-PLANS.false c.if-len-plans.true

pub returns : goal.returns
returns c = c.lists_meet.ensures
    ∙ by_lists _ c.if-len-gt-ROOM.false c.if-len-lt4.false c.plans_in-plans.ensures.0 c.if-plans-lt1.false c.if-plans-gt-PLANS.false c.if-len-plans.false
