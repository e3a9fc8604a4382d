-- `fitting::next_by_four` rounds the first number asked for up by 4.
use native.Mathlib.Omega.{arith}
use Rattle.fitting.specs.Fours.{next_by_four}
use Rattle.fitting.proofs.next_by_four.Goals as goal

pub next_multiple-requires : goal.next_multiple-requires
next_multiple-requires c = (omega arith, omega arith, c.requires.1)

pub returns : goal.returns
returns c = next_by_four _ _ _ _ c.requires.0 (rw (← c.max.ensures) c.next_multiple.ensures)
