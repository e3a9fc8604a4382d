-- What holds of every block of carrier_rows, carrier_columns and carrier_turned: the laws hold for its numbers, and it is small enough for 16-bit
-- addresses. And what the set-up of a walk rests on: a cell of a block, or the one behind its last.
use Rattle.std.specs.Prelude.{ℕ, ◌≡◌, ◌*◌, ◌/◌, ◌≤◌, ◌<◌}
use Rattle.std.specs.Coded.{le_prop}
use Rattle.std.proofs.Common.{sym, ap, ◌∙◌}
use Rattle.std.proofs.Math.Nat.{mul-div_cancel_left, ℕ_set}
use mathlib.Core.HLevel.{Σ_prop_path}
use Rattle.laws.specs.Sized.{Sized}

pub record Whole (d n s : ℕ) : Type 0 where
  pub size : Sized d n s
  pub small : n < 65536

pub record Block (d n s cell : ℕ) : Type 0 where
  pub size : Sized d n s
  pub small : n < 65536
  pub cell_in : cell ≤ n

pub block : {d n s cell : ℕ} → Whole d n s → cell ≤ n → Block d n s cell
block b h = record { size = b.size; small = b.small; cell_in = h }

-- how many groups a row has is no choice, so a fact is all that Whole is
abbrev Grouped : ℕ → ℕ → ℕ → Type 0
Grouped d n s = (g : ℕ) × n ≡ d * (s * g)

grouped_prop : {d n s : ℕ} → 0 < d → 0 < s → IsProp (Grouped d n s)
grouped_prop {d} {n} {s} hd hs x y = Σ_prop_path (λ g. ℕ_set n (d * (s * g))) (sym (count x) ∙ count y)
  where
    count : (x : Grouped d n s) → n / d / s ≡ x.0
    count x = ap (λ (m : ℕ). m / d / s) x.1 ∙ ap (λ (m : ℕ). m / s) (mul-div_cancel_left (s * x.0) hd) ∙ mul-div_cancel_left x.0 hs

abbrev Parts : ℕ → ℕ → ℕ → Type 0
Parts d n s = (0 < d) × (0 < s) × (0 < n) × Grouped d n s × (n < 65536)

abbrev parts : {d n s : ℕ} → Whole d n s → Parts d n s
parts b = let z = b.size in (z.d_pos, z.s_pos, z.n_pos, (z.groups, z.whole), b.small)

abbrev of_parts : {d n s : ℕ} → Parts d n s → Whole d n s
of_parts p = record { size = record { d_pos = p.0; s_pos = p.1; n_pos = p.2; groups = p.3.0; whole = p.3.1 }; small = p.4 }

pub whole_prop : {d n s : ℕ} → IsProp (Whole d n s)
whole_prop {d} {n} {s} a b = ap of_parts (parts_prop (parts a) (parts b))
  where
    parts_prop : IsProp (Parts d n s)
    parts_prop = hlevel (le_prop, grouped_prop {n = n} a.size.d_pos a.size.s_pos)
