-- `words::arguments::join`: the line so far is that of the arguments so far.
use Rattle.words.specs.Joined.{joined_none, joined_more}
use Rattle.words.proofs.arguments.join.Goals as goal

pub loop-i-init : goal.loop-i-init
loop-i-init c = joined_none _ _

pub loop-i-preserved : goal.loop-i-preserved
loop-i-preserved c = joined_more c.loop-i.invariant c.with_argument-line.ensures
