-- `plans::judging::count` tests the file, and reads its first number.
use Rattle.laws.specs.Members.{fails, passes}
use Rattle.plan_form.specs.Lists.{proper}
use Rattle.plans.specs.Judging.{counted_refused, counted_plans}
use mathlib.Core.Bool.{not}
use mathlib.Core.Path.{ap}
use Rattle.plans.proofs.judging.count.Goals as goal

pub returns-then-not-well_formed : goal.returns-then-not-well_formed
returns-then-not-well_formed c = counted_refused _ (fails c.well_formed-2.ensures (ap not c.if-not-well_formed.true))

pub plans_in-requires : goal.plans_in-requires
plans_in-requires c = (proper (passes c.well_formed-2.ensures (ap not c.if-not-well_formed.false))).long

pub returns : goal.returns
returns c = counted_plans _ (passes c.well_formed-2.ensures (ap not c.if-not-well_formed.false)) c.plans_in.ensures.0
