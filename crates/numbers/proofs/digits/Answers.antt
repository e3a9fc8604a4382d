-- `numbers::digits` is what the digits say: the number so far times ten, and the next.
use mathlib.Core.Path.{sym, ◌∙◌}
use native.Mathlib.Omega.{arith}
use borrow.Author.Rules.{rules}
use Rattle.numbers.specs.Decimal.{read_more}
use Rattle.numbers.proofs.digits.Goals as goal

pub loop-b-preserved : goal.loop-b-preserved
loop-b-preserved c =
    sym (read_more _ _ _ c.loop-b-test.true c.in_ok-d.d (search rules) c.in_ok-v.v (omega arith) (omega arith)) ∙ c.loop-b.invariant
