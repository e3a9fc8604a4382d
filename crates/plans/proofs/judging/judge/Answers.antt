-- `plans::judging::judge` tests the file and the plan's number, and judges the plan.
use native.Mathlib.Omega.{arith}
use mathlib.Core.Path.{◌∙◌}
use Rattle.laws.specs.Members.{fails, passes}
use Rattle.plan_form.specs.Lists.{proper, having}
use Rattle.plans.specs.Judging.{judged_file, judged_none, judged_beyond, judged_plan}
use mathlib.Core.Bool.{not}
use mathlib.Core.Path.{ap}
use Rattle.plans.proofs.judging.judge.Goals as goal

pub returns-then-not-well_formed : goal.returns-then-not-well_formed
returns-then-not-well_formed c = judged_file _ _ (fails c.well_formed-2.ensures (ap not c.if-not-well_formed.true))

pub returns-then-i-eq0 : goal.returns-then-i-eq0
returns-then-i-eq0 c = judged_none _ _ (passes c.well_formed-2.ensures (ap not c.if-not-well_formed.false)) c.if-i-eq0.true

pub plans_in-requires : goal.plans_in-requires
plans_in-requires c = (proper (passes c.well_formed-2.ensures (ap not c.if-not-well_formed.false))).long

pub returns-then-plans_in-i : goal.returns-then-plans_in-i
returns-then-plans_in-i c = judged_beyond _ _ (passes c.well_formed-2.ensures (ap not c.if-not-well_formed.false)) c.if-i-eq0.false c.plans_in.ensures.0 c.if-plans_in-i.true

pub judge_at-requires : goal.judge_at-requires
judge_at-requires c =
    let n = c.if-i-eq0.false in
    having (passes c.well_formed-2.ensures (ap not c.if-not-well_formed.false)) (omega (arith, c.plans_in.ensures.0, c.if-plans_in-i.false))

pub returns : goal.returns
returns c = c.judge_at.ensures ∙ judged_plan _ _ (passes c.well_formed-2.ensures (ap not c.if-not-well_formed.false)) c.if-i-eq0.false c.plans_in.ensures.0 c.if-plans_in-i.false
