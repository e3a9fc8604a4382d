-- `words::line::read`: what came before the line's end stands in the room.
use borrow.Author.Rules.{rules}
use Rattle.words.specs.Room.{taken_more}
use Rattle.words.proofs.line.read.Goals as goal

pub loop-at-preserved : goal.loop-at-preserved
loop-at-preserved c = taken_more c.loop-at.invariant (search rules)
