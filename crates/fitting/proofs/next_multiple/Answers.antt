-- `fitting::next_multiple` rounds up, as far as the limit.
use native.Mathlib.Omega.{arith}
use Rattle.laws.specs.Next.{next_multiple}
use Rattle.fitting.proofs.next_multiple.Goals as goal

pub returns-else-up-m : goal.returns-else-up-m
returns-else-up-m c =
    let e = c.max.ensures in
    rw e (next_multiple _ _ _ c.requires.0 (rw (← e) (omega arith)))
