-- Numbers modulo m, with the quotient at hand: what differs by a multiple of m has the same remainder, and the other way round; products,
-- and powers, of which the kit has no sum and no product. Rests on Digits and Units.
use Rattle.std.specs.Prelude.{◌≡◌, refl, ◌⊎◌, ℕ, zero, suc, ◌+◌, ◌*◌, ◌/◌, ◌%◌, ◌^◌, ◌<◌}
use Rattle.std.proofs.Common.{sym, ap, ◌∙◌, inl, inr, mod-lt, pow-suc, add-zero, add-suc, add_comm, zero-add, mul_comm, mul-one, arith}
use Rattle.std.proofs.Math.Nat.{div-add-mod, add-mul-mod_self_left, mul-mod_right, zero-mod, pow-zero}
use Rattle.laws.specs.Digits.{mod_cancel}
use Rattle.laws.specs.Units.{mul_mod_in}

-- a multiple of m, and its quotient
pub whole : (m x : ℕ) → x % m ≡ 0 → x ≡ m * (x / m)
whole m x e = omega (arith, div-add-mod x m)

pub nought : (m q : ℕ) {x : ℕ} → x ≡ m * q → x % m ≡ 0
nought m q e = ap (λ (y : ℕ). y % m) e ∙ mul-mod_right m q

-- what 2 leaves
pub even_or_odd : (x : ℕ) → (x ≡ 2 * (x / 2)) ⊎ (x ≡ 2 * (x / 2) + 1)
even_or_odd x = go (x % 2) refl
  where
    go : (r : ℕ) → x % 2 ≡ r → (x ≡ 2 * (x / 2)) ⊎ (x ≡ 2 * (x / 2) + 1)
    go zero e = inl (whole 2 x e)
    go (suc zero) e = inr (omega (arith, div-add-mod x 2))
    go (suc (suc r)) e = absurd (omega (arith, mod-lt x {m = 2} (omega arith)))

-- a multiple of m more
pub same : (m q y : ℕ) {x : ℕ} → x ≡ y + m * q → x % m ≡ y % m
same m q y e = ap (λ (z : ℕ). z % m) e ∙ add-mul-mod_self_left y m q

-- where x more leaves the remainder, x is a multiple of m
pub no_more : (m x y : ℕ) → 0 < m → (y + x) % m ≡ y % m → x % m ≡ 0
no_more m x y h e =
    mod_cancel m y x 0 h (ap (λ (z : ℕ). z % m) (add_comm x y) ∙ e ∙ ap (λ (z : ℕ). z % m) (sym (zero-add y))) ∙ zero-mod m

-- equal remainders stay equal under a factor
pub mul_mod : (m a b c : ℕ) → a % m ≡ b % m → a * c % m ≡ b * c % m
mul_mod m a b c e = at a ∙ ap (λ (x : ℕ). c * x % m) e ∙ sym (at b)
  where
    at : (x : ℕ) → x * c % m ≡ c * (x % m) % m
    at x = ap (λ (y : ℕ). y % m) (mul_comm x c) ∙ sym (mul_mod_in c x m)

-- powers of a product, and to a sum
pub pow_mul : (a b n : ℕ) → (a * b) ^ n ≡ a ^ n * b ^ n
pow_mul a b zero = rw (pow-zero (a * b), pow-zero a, pow-zero b)
pow_mul a b (suc n) = rw (pow-suc (a * b) n, pow-suc a n, pow-suc b n, pow_mul a b n) (omega arith)

pub pow_add : (a m n : ℕ) → a ^ (m + n) ≡ a ^ m * a ^ n
pow_add a m zero = rw (add-zero, pow-zero) (sym (mul-one (a ^ m)))
pow_add a m (suc n) = rw (add-suc, pow-suc a (m + n), pow_add a m n, pow-suc a n) (omega arith)

-- d that a factor n leaves as it is, is left so by every power of n
pub power_keeps : (k d n i : ℕ) → d * n % k ≡ d % k → d * n ^ i % k ≡ d % k
power_keeps k d n zero e = rw (pow-zero, mul-one)
power_keeps k d n (suc i) e =
    ap (λ (x : ℕ). x % k) (let q : d * n ^ suc i ≡ d * n ^ i * n = rw pow-suc (omega arith) in q)
    ∙ mul_mod k (d * n ^ i) d n (power_keeps k d n i e)
    ∙ e
