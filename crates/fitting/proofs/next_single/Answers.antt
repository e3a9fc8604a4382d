-- `fitting::next_single` is the number itself, where it is not below N.
use native.Mathlib.Omega.{arith}
use Rattle.laws.specs.Next.{next_single, none_single}
use Rattle.fitting.proofs.next_single.Goals as goal

pub returns-then-u-n : goal.returns-then-u-n
returns-then-u-n c = none_single _ _ (omega (arith, c.if-u-n.true))

pub returns-else-u-n : goal.returns-else-u-n
returns-else-u-n c = next_single _ _ c.requires (omega (arith, c.if-u-n.false))
