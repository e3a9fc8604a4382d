-- A number is a product of two: one that has no common divisor with f, and one that divides a power of f. It is found by taking the
-- greatest common divisor out again and again; n times are enough for a number below 2 to the n. Rests on Euclid.
use Rattle.std.specs.Prelude.{◌≡◌, refl, ℕ, zero, suc, ◌*◌, ◌/◌, ◌%◌, ◌^◌, ◌≤◌, ◌<◌}
use Rattle.std.proofs.Common.{sym, ap, ◌∙◌, mul-one, one-mul, pow-suc, mul-zero, zero-mul, mul-le-mul_right, arith}
use Rattle.std.proofs.Math.Nat.{pow-zero, two-pow-succ}
use Rattle.std.proofs.Math.Decide.{ℕ_discrete}
use Rattle.laws.specs.Residue.{whole, nought}
use Rattle.laws.specs.Euclid.{gcd, gcd_greatest, Coprime, coprime}

pub record Split (k f n : ℕ) : Type 0 where
  pub free : ℕ
  pub rest : ℕ
  pub quotient : ℕ
  pub whole_is : k ≡ free * rest
  pub power_is : f ^ n ≡ rest * quotient
  pub free_is : Coprime free f

-- with a common divisor g put back
put_back : (g k f : ℕ) {n : ℕ} → k ≡ g * (k / g) → f ≡ g * (f / g) → Split (k / g) f n → Split k f (suc n)
put_back g k f {n} e q s = record {
  free = s.free;
  rest = g * s.rest;
  quotient = s.quotient * (f / g);
  whole_is = omega (arith, ap (λ (x : ℕ). g * x) s.whole_is);
  power_is =
      pow-suc f n
      ∙ ap (λ (x : ℕ). x * f) s.power_is
      ∙ ap (λ (x : ℕ). s.rest * s.quotient * x) q
      ∙ omega arith;
  free_is = s.free_is;
}

pub split : (n k f : ℕ) → 0 < k → k < 2 ^ n → Split k f n
split zero k f h l = absurd (omega (arith, pow-zero 2))
split (suc n) k f h l = go (ℕ_discrete (gcd k f) 1) (split n (k / gcd k f) f)
  where
    two_up : (g : ℕ) → (g ≡ 1 → ⊥) → k ≡ g * (k / g) → 2 ≤ g
    two_up zero n e = absurd (omega (arith, zero-mul (k / 0)))
    two_up (suc zero) n e = absurd (n refl)
    two_up (suc (suc g)) n e = omega arith

    some : (q : ℕ) → k ≡ gcd k f * q → 0 < q
    some zero e = absurd (omega (arith, mul-zero (gcd k f)))
    some (suc q) e = omega arith

    go : Dec (gcd k f ≡ 1) → (0 < k / gcd k f → k / gcd k f < 2 ^ n → Split (k / gcd k f) f n) → Split k f (suc n)
    go (yes e) r = record {
      free = k;
      rest = 1;
      quotient = f ^ suc n;
      whole_is = sym (mul-one k);
      power_is = sym (one-mul (f ^ suc n));
      free_is = coprime k f h e;
    }
    go (no e) r =
        let kg = whole (gcd k f) k (gcd_greatest k f).divides_left in
        let big = two_up (gcd k f) e kg in
        let room : 2 * (k / gcd k f) ≤ k = omega (arith, mul-le-mul_right (k / gcd k f) big) in
        put_back (gcd k f) k f kg (whole (gcd k f) f (gcd_greatest k f).divides_right)
        (r (some (k / gcd k f) kg) (omega (arith, two-pow-succ n)))

-- where nothing is left but what divides the power
pub power_of_rest : {k f n : ℕ} (s : Split k f n) → s.free ≡ 1 → f ^ n % k ≡ 0
power_of_rest {k} s e =
    nought k s.quotient
    (s.power_is ∙ ap (λ (x : ℕ). x * s.quotient) (sym (s.whole_is ∙ ap (λ (x : ℕ). x * s.rest) e ∙ one-mul s.rest)))
