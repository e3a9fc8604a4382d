-- `carrier_rows::straight` writes L along a part of a row where s is 1. The loop's invariant is that of `along`, with nothing turned.
use native.Mathlib.Omega.{arith}
use Rattle.carrier_rows.specs.Straight.{straight_small, straight_next}
use Rattle.carrier_rows.proofs.straight.Goals as goal

pub overflow_cast-out : goal.overflow_cast-out
overflow_cast-out c = omega (arith, straight_small c.requires c.loop-i.invariant c.loop-i-test.true)

pub loop-i-preserved : goal.loop-i-preserved
loop-i-preserved c = straight_next c.requires c.loop-i.invariant c.loop-i-test.true
