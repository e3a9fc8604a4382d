-- `lay_out` lays out the rows. The invariant: the rows below x are laid out.
use Prim.Native.Nat.{◌%◌, ◌*◌, ◌-◌, ◌<◌, ℕ}
use lib.ListN.{get_or, length}
use mathlib.Core.Path.{◌≡◌}
use Rattle.wcdma_setup.specs.Numbers.{q_of}
use Rattle.wcdma_shape.specs.Orders.{row_at}
use Rattle.wcdma_shape.specs.Rectangle.{cols, prime}
use Rattle.wcdma.specs.Laid.{next_col}
use Rattle.wcdma_rows.proofs.lay_out.Given as goal

abbrev pub invariant-loop-x : goal.invariant-loop-x
invariant-loop-x l =
    (length l.base ≡ 20) × (length l.fall ≡ 20) × (length l.at ≡ 20)
    × ((y : ℕ) → y < l.x → get_or l.base y 0 ≡ row_at l.k y * cols l.k)
    × ((y : ℕ) → y < l.x → get_or l.fall y 0 ≡ prime l.k - 1 - q_of (prime l.k - 1) y % (prime l.k - 1))
    × ((y : ℕ) → y < l.x → get_or l.at y 0 ≡ next_col l.i l.j y * q_of (prime l.k - 1) y % (prime l.k - 1))
