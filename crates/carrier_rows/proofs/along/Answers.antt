-- `carrier_rows::along` writes L along a part of a row. The loop's invariant is the law of a lane.
use native.Mathlib.Omega.{arith}
use Rattle.carrier_rows.specs.Along.{address_small, along_step, along_next}
use Rattle.carrier_rows.proofs.along.Goals as goal

pub address-requires : goal.address-requires
address-requires c = address_small c.requires c.loop-i.invariant c.loop-i-test.true

pub overflow_cast-out : goal.overflow_cast-out
overflow_cast-out c = omega (arith, c.address.ensures, address_small c.requires c.loop-i.invariant c.loop-i-test.true)

pub next-at-requires : goal.next-at-requires
next-at-requires c = along_step c.requires c.loop-i.invariant c.loop-i-test.true

pub loop-i-preserved : goal.loop-i-preserved
loop-i-preserved c =
    let g = c.loop-i.invariant in
    along_next c.requires g c.loop-i-test.true c.address.ensures (c.next-at.ensures _ _ g.place)
