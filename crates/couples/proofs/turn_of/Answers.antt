-- `couples::turn_of` is one of the four numbers modulo 4.
use Rattle.couples.specs.Test.{turn_is}
use Rattle.couples.proofs.turn_of.Goals as goal

pub returns : goal.returns
returns c = turn_is _ _ c.offset_of.ensures.0
