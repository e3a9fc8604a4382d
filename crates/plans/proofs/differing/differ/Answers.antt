-- `plans::differing::differ` tests both files, and asks for the next difference.
use Rattle.laws.specs.Members.{fails, passes}
use Rattle.plan_form.specs.Lists.{proper}
use Rattle.plans.specs.Differing.{differ_left, differ_right, differ_both}
use mathlib.Core.Bool.{not}
use mathlib.Core.Path.{ap}
use Rattle.plans.proofs.differing.differ.Goals as goal

pub returns-then-not-well_formed : goal.returns-then-not-well_formed
returns-then-not-well_formed c = differ_left _ _ _ _ (fails c.well_formed-2.ensures (ap not c.if-not-well_formed.true))

pub returns-then-not-well_formed-2 : goal.returns-then-not-well_formed-2
returns-then-not-well_formed-2 c = differ_right _ _ _ _ (passes c.well_formed-2.ensures (ap not c.if-not-well_formed.false)) (fails c.well_formed-3.ensures (ap not c.if-not-well_formed-2.true))

pub differ_from-requires : goal.differ_from-requires
differ_from-requires c = (proper (passes c.well_formed-2.ensures (ap not c.if-not-well_formed.false)), proper (passes c.well_formed-3.ensures (ap not c.if-not-well_formed-2.false)))

pub returns : goal.returns
returns c =
    differ_both _ _ _ _ (passes c.well_formed-2.ensures (ap not c.if-not-well_formed.false)) (passes c.well_formed-3.ensures (ap not c.if-not-well_formed-2.false)) c.index_of.ensures
    c.differ_from.ensures
