-- A block that divides into d rows of whole groups of s. The parameter sets and the carrier laws share it.
use Rattle.std.specs.Prelude.{◌≡◌, ℕ, zero, suc, ◌*◌, ◌/◌, ◌≤◌, ◌<◌}
use Rattle.std.proofs.Common.{sym, ap, ◌∙◌, subst, mul-zero, mul-pos, mul-le-mul_left, arith}
use Rattle.std.proofs.Math.Nat.{mul-div_cancel_left}

-- N is a positive multiple of d, and N/d is a multiple of s
pub record Sized (d n s : ℕ) : Type 0 where
  pub d_pos : 0 < d
  pub s_pos : 0 < s
  pub n_pos : 0 < n
  pub groups : ℕ
  pub whole : n ≡ d * (s * groups)

factor_pos : (d s b : ℕ) → 0 < d * (s * b) → 0 < b
factor_pos d s zero h = omega (arith, mul-zero s, ap (λ (x : ℕ). d * x) (mul-zero s), mul-zero d)
factor_pos d s (suc b) h = omega arith

module _ {d n s : ℕ} (z : Sized d n s) where
  pub groups_pos : 0 < z.groups
  groups_pos = factor_pos d s z.groups (omega (arith, z.whole))

  -- the length of a row
  pub row_length : n / d ≡ s * z.groups
  row_length = ap (λ (x : ℕ). x / d) z.whole ∙ mul-div_cancel_left (s * z.groups) z.d_pos

  pub row_pos : 0 < n / d
  row_pos = subst (λ (x : ℕ). 0 < x) (sym row_length) (mul-pos z.s_pos groups_pos)

  pub row_whole : d * (n / d) ≡ n
  row_whole = ap (λ (x : ℕ). d * x) row_length ∙ sym z.whole

  pub d_le : d ≤ n
  d_le = omega (arith, z.whole, mul-le-mul_left d (mul-pos z.s_pos groups_pos))

  pub s_le_row : s ≤ n / d
  s_le_row = rw row_length (omega (arith, mul-le-mul_left s groups_pos))

  pub group_le : d * s ≤ n
  group_le = omega (arith, row_whole, mul-le-mul_left d s_le_row)
