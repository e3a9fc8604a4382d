-- `plans::judging::judge_at` tests the set, and then compares the list with L.
use mathlib.Core.Path.{sym, ap, ◌∙◌}
use Rattle.laws.specs.Outcome.{done}
use Rattle.plan_form.specs.Lists.{listed_inside}
use Rattle.plan_form.specs.Planned.{planned_accepted}
use Rattle.plans.specs.Judging.{planned_stops, planned_compared}
use borrow.Author.Rules.{rules}
use Rattle.plans.proofs.judging.judge_at.Goals as goal

pub compare-requires : goal.compare-requires
compare-requires c = (planned_accepted _ (sym c.in_default.ensures), listed_inside c.listing_at-list.ensures c.requires, search rules)

pub returns-in-Err : goal.returns-in-Err
returns-in-Err c = planned_stops _ _ c.set_at-set.ensures (sym c.in-Err.ensures) c.refusal_of.ensures

pub returns : goal.returns
returns c = ap done c.told.ensures
    ∙ planned_compared _ _ c.set_at-set.ensures (sym c.in_default.ensures) c.listing_at-list.ensures c.compare.ensures
