-- `plans::judging::told` reads a tally.
use Rattle.plans.specs.Judging.{told_equal, told_wrong}
use Rattle.plans.proofs.judging.told.Goals as goal

pub returns-then-t-eq0 : goal.returns-then-t-eq0
returns-then-t-eq0 c = told_equal _ c.if-t-eq0.true

pub returns : goal.returns
returns c = told_wrong _ c.if-t-eq0.false
