-- `couples::turns_differ`: the four turns are different.
use Rattle.couples.specs.Formula.{turns_differ}
use Rattle.couples.proofs.turns_differ.Goals as goal

pub returns : goal.returns
unfolding turns_differ
returns c =
    rw (← c.turn_of.ensures, ← c.turn_of-2.ensures, ← c.turn_of-3.ensures, ← c.turn_of-4.ensures) c.all_differ.ensures
