-- The walk for L, a row of the output at a time. Cell t is column t mod c of row t/c, c being N/d; a column's group of s is turned by its
-- row. The address is base + lift, both stepped by additions.
use Rattle.std.specs.Prelude.{◌≡◌, ℕ, ◌+◌, ◌-◌, ◌*◌, ◌/◌, ◌%◌, ◌<◌}
use Rattle.std.proofs.Common.{sym, ap, ◌∙◌, mod-lt, mod-eq_of_lt, mul-le-mul_left, mul-zero, arith}
use Rattle.std.proofs.Math.Nat.{mod-add-mod, mod_self, mul-div_cancel_left, mul-add-mod_self_left, div-add-mod}
use Rattle.laws.specs.Digits.{high_below}
use Rattle.laws.specs.Sized.{Sized, groups_pos, row_length, row_whole}
use Rattle.carrier_rows.specs.declared.RowSpot.{RowSpot}
use Rattle.carrier.specs.Formula.{carrier_l}
use Rattle.carrier.proofs.Steps.{l_digits}

-- the numbers at column col of a row: low is the column's place in its group, base the address without the turn, lift the turn's part
pub record RowAt (d s row col : ℕ) (at : RowSpot) : Type 0 where
  pub low_is : at.low ≡ col % s
  pub base_is : at.base + d * at.low ≡ d * col + row
  pub lift_is : at.lift ≡ d * ((col + row) % s)

-- where the numbers at a column are small enough to be worked out
pub record RowIn (d s row col : ℕ) : Type 0 where
  pub s_pos : 0 < s
  pub col_small : col < 65536
  pub place_small : d * col + row < 65536
  pub group_small : d * s < 65536

-- what a row's steps need: top is the last lift, group the addresses that a whole group takes
pub record RowStep (d s top group : ℕ) (at : RowSpot) : Type 0 where
  pub d_pos : 0 < d
  pub s_pos : 0 < s
  pub top_is : top ≡ d * (s - 1)
  pub group_is : group ≡ d * s
  pub group_small : d * s < 65536
  pub base_small : at.base < 65536
  pub low_small : at.low < 65536
  pub lift_small : at.lift < 65536

-- the lift of the next turn: d more, or 0 after the last
module _ {d s : ℕ} (hd : 0 < d) {turn lift : ℕ} (inside : turn < s) (e : lift ≡ d * turn) where
  turn_last : lift ≡ d * (s - 1) → turn + 1 ≡ s
  turn_last q =
      let t : turn ≡ s - 1 = sym (mul-div_cancel_left turn hd) ∙ ap (λ (x : ℕ). x / d) (sym e ∙ q) ∙ mul-div_cancel_left (s - 1) hd in
      omega arith

  pub lift_over : lift ≡ d * (s - 1) → 0 ≡ d * ((turn + 1) % s)
  lift_over q = sym (ap (λ (x : ℕ). d * (x % s)) (turn_last q) ∙ ap (λ (x : ℕ). d * x) (mod_self s) ∙ mul-zero d)

  pub lift_more : (lift ≡ d * (s - 1) → ⊥) → lift + d ≡ d * ((turn + 1) % s)
  lift_more q =
      let t : ¬ (turn ≡ s - 1) = λ k. q (e ∙ ap (λ (x : ℕ). d * x) k) in
      let h : turn + 1 < s = omega arith in
      omega (arith, ap (λ (x : ℕ). d * x) (mod-eq_of_lt h))

-- one column on
module _ {d s row col : ℕ} {at : RowSpot} (z : RowAt d s row col at) (lift : ℕ) (e : lift ≡ d * (((col + row) % s + 1) % s)) where
  next_lift : lift ≡ d * ((col + 1 + row) % s)
  next_lift = e ∙ ap (λ (x : ℕ). d * x) (mod-add-mod (col + row) s 1 ∙ ap (λ (x : ℕ). x % s) (omega arith))

  next_low : (at.low + 1) % s ≡ (col + 1) % s
  next_low = ap (λ (x : ℕ). (x + 1) % s) z.low_is ∙ mod-add-mod col s 1

  pub row_over : at.low + 1 ≡ s → RowAt d s row (col + 1) (record { base = at.base + d * s; low = 0; lift = lift })
  row_over h = record {
    low_is = sym (mod_self s) ∙ ap (λ (x : ℕ). x % s) (sym h) ∙ next_low;
    base_is = omega (arith, z.base_is, ap (λ (x : ℕ). d * x) h, mul-zero d);
    lift_is = next_lift;
  }

  pub row_on : 0 < s → (at.low + 1 ≡ s → ⊥) → RowAt d s row (col + 1) (record { base = at.base; low = at.low + 1; lift = lift })
  row_on hs h =
      let q : ¬ (at.low + 1 ≡ s) = h in
      let l : at.low + 1 < s = omega (arith, z.low_is, mod-lt col hs) in
      record { low_is = sym (mod-eq_of_lt l) ∙ next_low; base_is = omega (arith, z.base_is); lift_is = next_lift }

module _ {d n s : ℕ} (z : Sized d n s) where
  -- from the end of a row to the first column of the next
  pub row_turned : {row : ℕ} {at : RowSpot} → RowAt d s row (n / d) at → (lift : ℕ) → lift ≡ d * (((n / d + row) % s + 1) % s)
      → RowAt d s (row + 1) 0 (record { base = row + 1; low = 0; lift = lift })
  row_turned {row} p lift e = record {
    low_is = sym (mod-eq_of_lt z.s_pos);
    base_is = omega (arith, mul-zero d);
    lift_is = e ∙ ap (λ (x : ℕ). d * x)
        (mod-add-mod (n / d + row) s 1
        ∙ ap (λ (x : ℕ). x % s) (let q : n / d + row + 1 ≡ s * z.groups + (0 + (row + 1)) = omega (arith, row_length z) in q)
        ∙ mul-add-mod_self_left s z.groups (0 + (row + 1)));
  }

  -- where a row and a column are below theirs, the cell is below N and its address is L
  module _ {row col : ℕ} (hr : row < d) (hc : col < n / d) where
    pub row_cell : n / d * row + col < n
    row_cell = omega (arith, row_whole z, mul-le-mul_left (n / d) hr)

    pub row_address : {at : RowSpot} → RowAt d s row col at → at.base + at.lift ≡ carrier_l d n s (n / d * row + col)
    row_address {at} p =
        let w = col % s in
        let u = col / s in
        let split : col ≡ s * u + w = sym (div-add-mod col s) in
        let turned : (col + row) % s ≡ (w + row) % s = sym (mod-add-mod col s row) in
        let cell : n / d * row + col ≡ s * (z.groups * row + u) + w = omega (arith, ap (λ (x : ℕ). x * row) (row_length z)) in
        (let h : at.base + at.lift ≡ d * (s * u + (w + row) % s) + row =
        omega (arith, p.base_is, p.lift_is, ap (λ (x : ℕ). d * x) p.low_is, ap (λ (x : ℕ). d * x) split, ap (λ (x : ℕ). d * x) turned) in h)
        ∙ sym (l_digits d s z.groups z.d_pos z.s_pos (groups_pos z) row u w hr
        (high_below s z.groups col z.s_pos (rw (row_length z) at hc)) (mod-lt col z.s_pos))
        ∙ ap (λ (m : ℕ). carrier_l d m s (s * (z.groups * row + u) + w)) (sym z.whole)
        ∙ ap (carrier_l d n s) (sym cell)
