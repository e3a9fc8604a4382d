-- `big_end::pair_at` reads the bytes, big end first.
use Rattle.std.proofs.Common.{arith}
use Rattle.big_end.specs.Numbers.{pair_at}
use Rattle.big_end.proofs.pair_at.Goals as goal

pub returns : goal.returns
unfolding pair_at
returns c = omega (arith, c.from_be_bytes.ensures)
