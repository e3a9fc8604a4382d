-- Each index is used once: for every d, N and s with N a positive multiple of d and N/d a multiple of s, L and M undo each other below N,
-- and no subtraction of the formulas stops at 0.
use Rattle.std.proofs.Common.{sym, subst, mul-le-mul_right, arith}
use Rattle.std.specs.Prelude.{ℕ, ◌+◌, ◌-◌, ◌*◌, ◌/◌, ◌≤◌, ◌<◌}
use Rattle.std.proofs.Math.Nat.{div-le_of_le-mul, mul-div-le}
use Rattle.laws.specs.Digits.{less_one}
use Rattle.laws.specs.Sized.{Sized, groups_pos, d_le}
use Rattle.laws.specs.Perm.{Perm}
use Rattle.laws.specs.Walk.{Lawful, bare_lawful}
use Rattle.carrier.specs.Formula.{carrier_m, carrier_l, carrier_rule}
use Rattle.carrier.proofs.Steps.{digits_perm}

module _ {d n s : ℕ} (z : Sized d n s) where
  pub carrier_once : Perm n (carrier_l d n s) (carrier_m d n s)
  carrier_once =
      subst (λ (n : ℕ). Perm n (carrier_l d n s) (carrier_m d n s)) (sym z.whole) (digits_perm d s z.groups z.d_pos z.s_pos (groups_pos z))

  -- the laws of the family
  pub carrier_lawful : n < 65536 → Lawful n (carrier_rule d n s)
  carrier_lawful h = bare_lawful carrier_once h

  -- the differences of (2) and (4) are never below 0
  pub turn_fits : (m : ℕ) → d * m / n ≤ m + n
  turn_fits m = let h = div-le_of_le-mul n (mul-le-mul_right m (d_le z)) in omega arith

  pub last_fits : (m : ℕ) → (n - 1) * (d * m / n) ≤ d * m
  last_fits m = omega (arith, less_one n (d * m / n) z.n_pos, mul-div-le (d * m) n)
