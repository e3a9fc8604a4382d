-- `carrier_columns::down` writes M down a part of a column. The loop's invariant is the law of a lane.
use native.Mathlib.Omega.{arith}
use Rattle.laws.specs.Sized.{d_le}
use Rattle.carrier_columns.specs.Down.{row_in, address_small, down_step, down_next}
use Rattle.carrier_columns.proofs.down.Goals as goal

pub address-requires : goal.address-requires
address-requires c = address_small c.requires c.loop-i.invariant c.loop-i-test.true

pub overflow_cast-out : goal.overflow_cast-out
overflow_cast-out c = omega (arith, c.address.ensures, address_small c.requires c.loop-i.invariant c.loop-i-test.true)

pub next-at-requires : goal.next-at-requires
next-at-requires c = down_step c.requires c.loop-i.invariant c.loop-i-test.true

pub loop-i-preserved : goal.loop-i-preserved
loop-i-preserved c =
    let z = c.requires in
    let g = c.loop-i.invariant in
    let h = c.loop-i-test.true in
    down_next z g h c.address.ensures (c.next-at.ensures _ _ _ (omega (arith, row_in z g h, d_le z.size)))
