-- `lines::word` is word i: spaces and words in turns.
use Rattle.lines.specs.Words.{word_first, word_passed, word_found}
use Rattle.lines.proofs.word.Goals as goal

pub loop-init : goal.loop-init
loop-init c = word_first c.args.i c.args.line.now

pub loop-preserved : goal.loop-preserved
loop-preserved c = word_passed _ _ _ _ c.loop.invariant c.behind.ensures c.loop-test.true c.behind-rest.ensures

pub returns : goal.returns
returns c = word_found _ _ _ _ c.loop.invariant c.behind-rest-2.ensures c.loop-test.false c.run.ensures.value
