-- `words::arguments::join`: the line so far is that of the arguments so far.
use Rattle.words.specs.Joined.{Going}
use Rattle.words.proofs.arguments.join.Given as goal

abbrev pub invariant-loop-i : goal.invariant-loop-i
invariant-loop-i l = Going l.initial.room l.most l.room l.line.at l.line.plain
