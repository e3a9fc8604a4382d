-- `plan_judge::tally_at` counts a position where the list has another address.
use Rattle.plan_form.specs.Lists.{list_at}
use Rattle.plan_judge.specs.Tally.{next_right, next_wrong}
use Rattle.plan_judge.proofs.tally_at.Goals as goal

pub returns-then-is_at : goal.returns-then-is_at
returns-then-is_at c = let a = c.args in next_right (list_at a.file.now a.list) a.p a.address a.tally c.is_at.ensures c.if-is_at.true

pub returns : goal.returns
returns c = let a = c.args in
    next_wrong (list_at a.file.now a.list) a.p a.address a.tally c.is_at.ensures c.if-is_at.false c.more_wrong.ensures
