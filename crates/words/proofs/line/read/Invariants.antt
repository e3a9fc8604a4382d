-- `words::line::read`: what came before the line's end stands in the room.
use Rattle.words.specs.Room.{Taken}
use Rattle.words.proofs.line.read.Given as goal

abbrev pub invariant-loop-at : goal.invariant-loop-at
invariant-loop-at l = Taken l.initial.room l.room l.at
