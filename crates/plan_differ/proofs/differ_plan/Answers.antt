-- `plan_differ::differ_plan` asks for the plan in each file, then for its header, then for its lists.
use mathlib.Core.Path.{◌∙◌}
use Rattle.plan_form.specs.Lists.{having}
use Rattle.plan_differ.specs.Seeking.{plan_left, plan_right, plan_header, plan_lists}
use mathlib.Core.Path.{◌∙◌}
use mathlib.Core.Bool.{not}
use mathlib.Core.Path.{ap}
use Rattle.plan_differ.proofs.differ_plan.Goals as goal

pub returns-then-plans_in-i : goal.returns-then-plans_in-i
returns-then-plans_in-i c = plan_left _ _ _ _ c.plans_in.ensures.0 c.if-plans_in-i.true

pub returns-then-plans_in-i-2 : goal.returns-then-plans_in-i-2
returns-then-plans_in-i-2 c = plan_right _ _ _ _ c.plans_in.ensures.0 c.if-plans_in-i.false c.plans_in-2.ensures.0 c.if-plans_in-i-2.true

pub same_header-requires : goal.same_header-requires
same_header-requires c =
    (having c.requires.0.is_formed (rw c.plans_in.ensures.0 at c.if-plans_in-i.false), having c.requires.1.is_formed (rw c.plans_in-2.ensures.0 at c.if-plans_in-i-2.false))

pub returns-then-not-same_header : goal.returns-then-not-same_header
returns-then-not-same_header c = plan_header _ _ _ _ c.plans_in.ensures.0 c.if-plans_in-i.false c.plans_in-2.ensures.0 c.if-plans_in-i-2.false c.same_header.ensures (ap not c.if-not-same_header.true)

pub differ_lists-requires : goal.differ_lists-requires
differ_lists-requires c = (
  having c.requires.0.is_formed (rw c.plans_in.ensures.0 at c.if-plans_in-i.false),
  having c.requires.1.is_formed (rw c.plans_in-2.ensures.0 at c.if-plans_in-i-2.false),
  c.requires.2,
)

pub returns : goal.returns
returns c = c.differ_lists.ensures
    ∙ plan_lists _ _ _ _ c.plans_in.ensures.0 c.if-plans_in-i.false c.plans_in-2.ensures.0 c.if-plans_in-i-2.false c.same_header.ensures (ap not c.if-not-same_header.false)
