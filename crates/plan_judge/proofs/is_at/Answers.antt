-- `plan_judge::is_at` asks a list for an address at a position.
use Rattle.plan_judge.specs.Tally.{not_among, among_is}
use Rattle.plan_judge.proofs.is_at.Goals as goal

pub returns-then-p-list : goal.returns-then-p-list
returns-then-p-list c = not_among _ _ _ _ c.if-p-list.true

pub returns : goal.returns
returns c = among_is _ _ _ _ c.if-p-list.false c.pair_at.ensures
