-- `words::text::put`: byte by byte, the room written where it is full.
use Rattle.words.specs.Gathered.{Putting}
use Rattle.words.proofs.text.put.Given as goal

abbrev pub invariant-loop-b : goal.invariant-loop-b
invariant-loop-b l = Putting l.initial.room l.from l.s l.room l.at l.b-index
