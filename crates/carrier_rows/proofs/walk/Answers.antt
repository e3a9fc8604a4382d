-- `carrier_rows::walk` is the walk for L from any cell: 9 by its test, nothing with no room, and else what `write` wrote.
use mathlib.Core.Path.{refl}
use native.Mathlib.Omega.{arith}
use Rattle.laws.specs.Leaves.{ran_leaf}
use Rattle.carrier.proofs.Once.{carrier_once}
use Rattle.carrier_rows.proofs.walk.Goals as goal

pub returns-then-out-eq0 : goal.returns-then-out-eq0
returns-then-out-eq0 c =
    ran_leaf (carrier_once c.args.b.whole.size).l_below c.if-b-cell.false
    (record { count_is = omega (arith, c.if-out-eq0.true); list_is = refl })

pub returns : goal.returns
returns c =
    ran_leaf (carrier_once c.args.b.whole.size).l_below c.if-b-cell.false c.write-count.ensures
