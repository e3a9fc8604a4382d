-- `plan_judge::more_wrong` counts positions in a row.
use Rattle.plan_judge.specs.Tally.{row_none, row_first, row_later}
use Rattle.plan_judge.proofs.more_wrong.Goals as goal
use Rattle.plan_judge.proofs.more_wrong.Goals.{then-tally-eq0, else-tally-eq0}

pub returns-then-more-eq0 : goal.returns-then-more-eq0
returns-then-more-eq0 c = rw c.if-more-eq0.true (row_none _ c.args.from)

pub returns : goal.returns
returns c =
    elim c.if-tally-eq0.branch [
      | then-tally-eq0 w ↦ rw w.first-is (row_first _ _ c.if-more-eq0.false w.if-tally-eq0.true)
      | else-tally-eq0 w ↦ rw w.first-is (row_later _ _ c.if-more-eq0.false w.if-tally-eq0.false)
    ]
