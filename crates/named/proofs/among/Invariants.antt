-- `named::among`: word after word, those of the kind counted.
use Rattle.named.specs.Named.{Picking}
use Rattle.named.proofs.among.Given as goal

abbrev pub invariant-loop-j : goal.invariant-loop-j
invariant-loop-j l = Picking l.named l.line l.i l.left l.j
