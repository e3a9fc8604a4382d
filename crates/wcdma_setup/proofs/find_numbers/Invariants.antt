-- `find_numbers` finds the numbers q row by row. The invariant: those below i stand in their places, and what comes after last is q(i), which for
-- each p of the table is found.
use Prim.Native.Nat.{◌%◌, ◌<◌, ◌≤◌, ℕ}
use lib.ListN.{get_or, length}
use mathlib.Core.Path.{◌≡◌}
use Rattle.wcdma_setup.specs.Numbers.{next_q, q_of}
use Rattle.wcdma_setup.proofs.find_numbers.Given as goal

abbrev pub invariant-loop-i : goal.invariant-loop-i
invariant-loop-i l =
    (length l.q ≡ 20) × ((y : ℕ) → y < l.i → get_or l.q y 0 ≡ q_of l.m y)
    × (next_q l.m l.last ≡ q_of l.m l.i) × (l.last % 2 ≡ 1) × (5 ≤ l.last)
