-- `carrier_turned::walk_m` is the walk for M from any cell: 9 by its test, and else what `write_m` wrote.
use native.Mathlib.Omega.{arith}
use Rattle.laws.specs.Lanes.{ran_same}
use Rattle.laws.specs.Leaves.{ran_leaf}
use Rattle.carrier.proofs.Turned.{spatial_once}
use Rattle.carrier_turned.specs.Turned.{spatial, turn_in, turn_lt, m_by}
use Rattle.carrier_turned.proofs.walk_m.Goals as goal

pub write_m-count-requires : goal.write_m-count-requires
write_m-count-requires c =
    (turn_lt (spatial c.args.b) c.turn_of-v.ensures, omega (arith, c.if-b-cell.false))

pub returns : goal.returns
returns c =
    let p = spatial c.args.b in
    ran_leaf (spatial_once p.whole.size _ _ _ (turn_in p)).m_below (omega (arith, c.if-b-cell.false)) (ran_same (m_by c.args.b c.turn_of-v.ensures) c.write_m-count.ensures)
