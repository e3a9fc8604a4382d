-- `carrier_columns::walk` is the walk for M from any cell: 9 by its test, and else what `write` wrote.
use Rattle.laws.specs.Leaves.{ran_leaf}
use Rattle.carrier.proofs.Once.{carrier_once}
use Rattle.carrier_columns.proofs.walk.Goals as goal

pub returns : goal.returns
returns c =
    ran_leaf (carrier_once c.args.b.whole.size).m_below c.if-b-cell.false c.write-count.ensures
