-- The walk for M, a column at a time. Input k is row k mod d of column k/d; c is N/d. A column's group of s is turned back by one with each
-- row. The address is base + turn, both stepped by additions.
use Rattle.std.specs.Prelude.{◌≡◌, ℕ, ◌+◌, ◌-◌, ◌*◌, ◌/◌, ◌%◌, ◌≤◌, ◌<◌}
use Rattle.std.proofs.Common.{sym, ap, ◌∙◌, mod-lt, mul-zero, mul-le-mul_left, arith}
use Rattle.std.proofs.Math.Nat.{mod-le, mul-add-mod_self_left, add-mul-mod_self_left, div-add-mod}
use Rattle.laws.specs.Digits.{high_below}
use Rattle.laws.specs.Sized.{Sized, groups_pos, row_length, row_whole, d_le}
use Rattle.carrier_columns.specs.declared.ColumnSpot.{ColumnSpot}
use Rattle.carrier.specs.Formula.{carrier_m}
use Rattle.carrier.proofs.Steps.{m_digits}

-- the numbers at a row of column col: low is the column's place in its group, base the address without the turn, turn the turned place
pub record ColumnAt (c n s col row : ℕ) (at : ColumnSpot) : Type 0 where
  pub low_is : at.low ≡ col % s
  pub base_is : at.base + at.low ≡ c * row + col
  pub turn_is : at.turn ≡ (col + n - row) % s

-- where the numbers at a row are small enough to be worked out
pub record ColumnIn (c n s col row : ℕ) : Type 0 where
  pub s_pos : 0 < s
  pub n_small : n < 65536
  pub row_in : row ≤ n
  pub place_small : c * row + col < 65536

-- what a column's steps need
pub record ColumnStep (c s : ℕ) (at : ColumnSpot) : Type 0 where
  pub s_pos : 0 < s
  pub c_small : c < 65536
  pub base_small : at.base < 65536

-- one row on
pub column_on : {c n s col row : ℕ} {at : ColumnSpot} → ColumnAt c n s col row at → (turn : ℕ) → turn ≡ (col + n - (row + 1)) % s
    → ColumnAt c n s col (row + 1) (record { base = at.base + c; low = at.low; turn = turn })
column_on {c} {n} {s} {col} {row} z turn e = record { low_is = z.low_is; base_is = omega (arith, z.base_is); turn_is = e }

module _ {d n s : ℕ} (z : Sized d n s) where
  -- the first row of the next column
  pub column_turned : (col low : ℕ) → low ≡ (col + 1) % s → ColumnAt (n / d) n s (col + 1) 0 (record { base = col + 1 - low; low = low; turn = low })
  column_turned col low e = record {
    low_is = e;
    base_is = omega (arith, e, mod-le (col + 1) s, mul-zero (n / d));
    turn_is = e ∙ sym (add-mul-mod_self_left (col + 1) s (d * z.groups))
        ∙ ap (λ (x : ℕ). x % s) (let q : col + 1 + s * (d * z.groups) ≡ col + 1 + n - 0 = omega (arith, z.whole) in q);
  }

  -- where a column and a row are below theirs, the cell is below N and its address is M
  module _ {col row : ℕ} (hc : col < n / d) (hr : row < d) where
    pub column_cell : d * col + row < n
    column_cell = omega (arith, row_whole z, mul-le-mul_left d hc)

    pub column_address : {at : ColumnSpot} → ColumnAt (n / d) n s col row at → at.base + at.turn ≡ carrier_m d n s (d * col + row)
    column_address {at} p =
        let v = col % s in
        let u = col / s in
        let split : col ≡ s * u + v = sym (div-add-mod col s) in
        let turned : (col + n - row) % s ≡ (v + n - row) % s =
        ap (λ (x : ℕ). x % s) (let q : col + n - row ≡ s * u + (v + n - row) = omega (arith, d_le z) in q) ∙ mul-add-mod_self_left s u (v + n - row) in
        (let h : at.base + at.turn ≡ s * (z.groups * row + u) + (v + n - row) % s =
        omega (arith, p.base_is, p.turn_is, p.low_is, ap (λ (x : ℕ). x * row) (row_length z)) in h)
        ∙ ap (λ (m : ℕ). s * (z.groups * row + u) + (v + m - row) % s) z.whole
        ∙ sym (m_digits d s z.groups z.d_pos z.s_pos (groups_pos z) row u v hr
        (high_below s z.groups col z.s_pos (rw (row_length z) at hc)) (mod-lt col z.s_pos))
        ∙ ap (λ (m : ℕ). carrier_m d m s (d * (s * u + v) + row)) (sym z.whole)
        ∙ ap (λ (x : ℕ). carrier_m d n s (d * x + row)) (sym split)
