-- `fitting::next_in_range` is the first number asked for, or nothing past the end.
use native.Mathlib.Omega.{arith}
use Rattle.laws.specs.Next.{next_range, none_range}
use Rattle.fitting.proofs.next_in_range.Goals as goal

pub returns-then-first-m : goal.returns-then-first-m
returns-then-first-m c = none_range _ _ _ (omega (arith, c.if-first-m.true, c.max-first.ensures))

pub returns-else-first-m : goal.returns-else-first-m
returns-else-first-m c =
    let e = c.max-first.ensures in
    rw e (next_range _ _ _ c.requires (omega (arith, c.if-first-m.false, e)))
