-- No kind's store is longer than ATSC's.
use native.Mathlib.Omega.{arith}
use Rattle.kinds.specs.Kinds.{sound}
use Rattle.bursts.proofs.picture.longest_delay.Goals as goal

pub overflow_mul-result : goal.overflow_mul-result
overflow_mul-result c = omega (arith, c.of.ensures.store, (sound c.args.kind).low)

pub returns : goal.returns
returns c = omega (arith, c.of.ensures.store, (sound c.args.kind).low)
