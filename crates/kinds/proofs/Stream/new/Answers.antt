-- The record of a started machine.
use mathlib.Core.Path.{refl}
use Rattle.delay.specs.Machine.{start_stand}
use Rattle.kinds.specs.Kinds.{start_record}
use Rattle.kinds.proofs.Stream.new.Goals as goal

pub returns : goal.returns
unfolding start_record start_stand
returns c = refl
