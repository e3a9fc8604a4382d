-- `lte::firsts::first_at` reads f1: the array is the column of the standard's table.
use Rattle.lte.specs.Standard.{standard}
use Rattle.lte.specs.Table.{firsts}
use Rattle.lte.proofs.firsts.first_at.Goals as goal

pub returns : goal.returns
unfolding firsts standard
returns c = c.from.ensures
