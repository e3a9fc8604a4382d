-- `figures::decimal::multiply`: the carry is at most 8.
use Rattle.std.proofs.Common.{◌≤◌}
use Rattle.figures.proofs.decimal.multiply.Given as goal

abbrev pub invariant-loop-i : goal.invariant-loop-i
invariant-loop-i l = l.carry ≤ 8
