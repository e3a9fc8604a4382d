-- `lte::seconds::second_at` reads f2: the array is the column of the standard's table.
use Rattle.lte.specs.Standard.{standard}
use Rattle.lte.specs.Table.{seconds}
use Rattle.lte.proofs.seconds.second_at.Goals as goal

pub returns : goal.returns
unfolding seconds standard
returns c = c.from.ensures
