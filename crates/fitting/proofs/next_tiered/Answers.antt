-- `fitting::next_tiered` rounds the first number asked for up by its own step.
use native.Mathlib.Omega.{arith}
use Rattle.fitting.specs.Tiers.{step_small, next_tiered}
use Rattle.fitting.proofs.next_tiered.Goals as goal

pub next_multiple-requires : goal.next_multiple-requires
next_multiple-requires c =
    let s = c.step_by.ensures in
    (s.result_nonzero, omega (arith, s.value, step_small c.max-first.result), c.requires.1)

pub returns : goal.returns
returns c =
    let e = c.max-first.ensures in
    next_tiered _ _ _ _ c.requires.0 (rw (← e, ← c.step_by.ensures.value) c.next_multiple.ensures)
