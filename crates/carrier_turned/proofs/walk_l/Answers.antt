-- `carrier_turned::walk_l` is the walk for L from any cell: 9 by its test, and else what `write_l` wrote.
use native.Mathlib.Omega.{arith}
use Rattle.laws.specs.Lanes.{ran_same}
use Rattle.laws.specs.Leaves.{ran_leaf}
use Rattle.carrier.proofs.Turned.{spatial_once}
use Rattle.carrier_turned.specs.Turned.{spatial, turn_in, turn_lt, l_by}
use Rattle.carrier_turned.proofs.walk_l.Goals as goal

pub write_l-count-requires : goal.write_l-count-requires
write_l-count-requires c =
    (turn_lt (spatial c.args.b) c.turn_of-v.ensures, omega (arith, c.if-b-cell.false))

pub returns : goal.returns
returns c =
    let p = spatial c.args.b in
    ran_leaf (spatial_once p.whole.size _ _ _ (turn_in p)).l_below (omega (arith, c.if-b-cell.false)) (ran_same (l_by c.args.b c.turn_of-v.ensures) c.write_l-count.ensures)
