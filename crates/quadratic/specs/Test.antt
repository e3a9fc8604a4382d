-- The test as it is run: Euclid first, then the 16th power modulo K by four squarings. Rests on Residue of laws.
use Rattle.std.specs.Prelude.{◌≡◌, false, ℕ, ◌+◌, ◌*◌, ◌%◌, ◌^◌, ◌<◌}
use Rattle.std.proofs.Common.{sym, ap, ◌∙◌, mod-eq_of_lt, pow-suc, one-mul, eq-eqb, ne_eqb}
use Rattle.std.proofs.Math.Nat.{mod-mod, pow-zero}
use Rattle.std.proofs.Math.Dec.{eqb}
use Rattle.laws.specs.Units.{mul_mod_in}
use Rattle.laws.specs.Residue.{mul_mod, pow_add}
use Rattle.laws.specs.Euclid.{gcd}
use Rattle.quadratic.specs.Formula.{all_apart}

module _ (k f : ℕ) where
  -- a power's square
  squared : (n x y : ℕ) → x ≡ f ^ n % k → y ≡ x * x % k → y ≡ f ^ (n + n) % k
  squared n x y e q =
      q
      ∙ mul_mod k x (f ^ n) x (ap (λ (z : ℕ). z % k) e ∙ mod-mod (f ^ n) k)
      ∙ ap (λ (z : ℕ). f ^ n * z % k) e
      ∙ mul_mod_in (f ^ n) (f ^ n) k
      ∙ ap (λ (z : ℕ). z % k) (sym (pow_add f n n))

  pub sixteenth_is : (a b c d : ℕ) → f < k → a ≡ f * f % k → b ≡ a * a % k → c ≡ b * b % k → d ≡ c * c % k → d ≡ f ^ 16 % k
  sixteenth_is a b c d h p q r s = squared 8 c d (squared 4 b c (squared 2 a b (squared 1 f a first p) q) r) s
    where
      first : f ≡ f ^ 1 % k
      first = sym (ap (λ (z : ℕ). z % k) (pow-suc f 0 ∙ ap (λ (z : ℕ). z * f) (pow-zero f) ∙ one-mul f) ∙ mod-eq_of_lt h)

-- the answers
module _ (k f1 f2 : ℕ) where
  pub not_alone : {g : ℕ} → g ≡ gcd k f1 → (g ≡ 1 → ⊥) → false ≡ all_apart k f1 f2
  unfolding all_apart
  not_alone e n = rw (ne_eqb (gcd k f1) 1 (λ q. n (e ∙ q)))

  pub by_power : {g x : ℕ} → g ≡ gcd k f1 → g ≡ 1 → x ≡ f2 ^ 16 % k → eqb x 0 ≡ all_apart k f1 f2
  unfolding all_apart
  by_power e q p = rw (eq-eqb (gcd k f1) 1 (sym e ∙ q)) (ap (λ (y : ℕ). eqb y 0) p)
