-- `numbers::digits` is what the digits say: the number so far times ten, and the next.
use lib.ListN.{drop}
use Rattle.std.specs.Prelude.{◌≡◌}
use Rattle.numbers.specs.Decimal.{read_from}
use Rattle.numbers.proofs.digits.Given as goal

abbrev pub invariant-loop-b : goal.invariant-loop-b
invariant-loop-b l = read_from l.v (drop l.b-index l.s) ≡ read_from 0 l.s
