-- `plan_judge::tally_piece` tallies a piece. The loop's invariant: so many of its positions are tallied.
use Rattle.plan_judge.specs.Tally.{along_first, along_end, along_more}
use borrow.Author.Rules.{rules}
use Rattle.plan_judge.proofs.tally_piece.Goals as goal

pub loop-j-init : goal.loop-j-init
loop-j-init c = along_first _ _ _ _ c.requires.1.few

pub loop-j-preserved : goal.loop-j-preserved
loop-j-preserved c = along_more c.loop-j.invariant c.loop-j-test.true (search rules) c.tally_at-t.ensures

pub returns : goal.returns
returns c = along_end c.loop-j.invariant c.loop-j-test.false
