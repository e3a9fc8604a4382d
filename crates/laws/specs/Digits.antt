-- Division and remainder: a number by its digits, and laws of remainders that the kit has not.
use Rattle.std.specs.Prelude.{◌≡◌, ℕ, ◌+◌, ◌-◌, ◌*◌, ◌/◌, ◌%◌, ◌≤◌, ◌<◌}
use Rattle.std.proofs.Common.{sym, ap, ◌∙◌, ⊎_elim, mod-eq_of_lt, add-zero, suc-mul, mul-le-mul_left, mul_comm, div-lt_iff_lt-mul, mod-lt, eq-or-lt_of_le, arith}
use Rattle.std.proofs.Math.Nat.{mod-add-mod, add-mul-mod_self_left, mul-add-mod_self_left, mul-add-div, div-eq_of_lt, mod_self}

-- one less, times a
pub less_one : (n a : ℕ) → 0 < n → (n - 1) * a + a ≡ n * a
less_one n a h = sym (suc-mul (n - 1) a) ∙ ap (λ (z : ℕ). z * a) (omega arith)

-- q more on both sides, modulo s, is taken away again
pub mod_cancel : (s q x y : ℕ) → 0 < s → (x + q) % s ≡ (y + q) % s → x % s ≡ y % s
mod_cancel s q x y hs e = sym (up x) ∙ ap (λ (z : ℕ). (z + q * (s - 1)) % s) e ∙ up y
  where
    split : q + q * (s - 1) ≡ s * q
    split = omega (arith, less_one s q hs)

    up : (z : ℕ) → ((z + q) % s + q * (s - 1)) % s ≡ z % s
    up z =
        mod-add-mod (z + q) s (q * (s - 1))
        ∙ ap (λ (w : ℕ). w % s) (omega (arith, split))
        ∙ add-mul-mod_self_left z s q

-- the digits of s * a + b
pub low : (s a : ℕ) {b : ℕ} → b < s → (s * a + b) % s ≡ b
low s a {b} h = mul-add-mod_self_left s a b ∙ mod-eq_of_lt h

pub high : (s a : ℕ) {b : ℕ} → b < s → (s * a + b) / s ≡ a
high s a {b} h = mul-add-div (omega arith) a b ∙ ap (λ (z : ℕ). a + z) (div-eq_of_lt h) ∙ add-zero a

pub digits_below : (s a b : ℕ) {c : ℕ} → a < c → b < s → s * a + b < s * c
digits_below s a b {c} ha hb = omega (arith, le s a c ha)
  where
    le : (s a c : ℕ) → a < c → s * (a + 1) ≤ s * c
    le s a c h = mul-le-mul_left s (omega arith)

-- the high digit is below c where the number is below s * c
pub high_below : (s c k : ℕ) → 0 < s → k < s * c → k / s < c
high_below s c k hs h = (div-lt_iff_lt-mul hs).1 (omega (arith, mul_comm s c))

-- one more and one less, modulo s
module _ (s x : ℕ) (hs : 0 < s) where
  pub mod_over : x % s + 1 ≡ s → (x + 1) % s ≡ 0
  mod_over e = sym (mod-add-mod x s 1) ∙ ap (λ (y : ℕ). y % s) e ∙ mod_self s

  pub mod_more : (x % s + 1 ≡ s → ⊥) → (x + 1) % s ≡ x % s + 1
  mod_more n = let q : ¬ (x % s + 1 ≡ s) = n in sym (mod-add-mod x s 1) ∙ mod-eq_of_lt (omega (arith, mod-lt x hs))

  pub mod_back_over : (x + 1) % s ≡ 0 → s - 1 ≡ x % s
  mod_back_over e =
      ⊎_elim (λ q. omega arith) (λ h. absurd (omega (arith, mod_more (λ q. omega arith)))) (eq-or-lt_of_le (mod-lt x hs))

  pub mod_back_less : ((x + 1) % s ≡ 0 → ⊥) → (x + 1) % s - 1 ≡ x % s
  mod_back_less n = omega (arith, mod_more (λ q. n (mod_over q)))
