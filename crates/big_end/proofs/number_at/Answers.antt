-- `big_end::number_at` reads the bytes, big end first.
use Rattle.std.proofs.Common.{arith}
use Rattle.big_end.specs.Numbers.{number_at}
use Rattle.big_end.proofs.number_at.Goals as goal

pub returns : goal.returns
unfolding number_at
returns c = omega (arith, c.from_be_bytes.ensures)
