-- The test is enough: where K and f1 have no common divisor and K divides f2 to the 16th, different positions have different addresses.
-- Of two positions d apart that share one, K divides d·(f1 + f2·s), s being their sum; with f1·v one less than a multiple of K that is
-- d = d·(f2·s·v) modulo K, so d = d·(f2·s·v) to the 16th = 0. For every K. Rests on Euclid and
-- Shared of laws.
use Rattle.std.specs.Prelude.{◌≡◌, ℕ, ◌+◌, ◌*◌, ◌/◌, ◌%◌, ◌^◌, ◌<◌}
use Rattle.std.proofs.Math.Path.{sym}
use Rattle.std.proofs.Common.{ap, ◌∙◌, mod-eq_of_lt}
use native.Mathlib.Omega.{arith}
use Rattle.laws.specs.Digits.{mod_cancel}
use Rattle.laws.specs.Residue.{whole, nought, no_more, power_keeps, pow_mul}
use Rattle.laws.specs.Euclid.{Coprime}
use Rattle.laws.specs.Shared.{OneToOne, from_distance}
use Rattle.quadratic.specs.Formula.{quadratic_l}

module _ (k f1 f2 : ℕ) (hk : 0 < k) (one : Coprime k f1) (power : f2 ^ 16 % k ≡ 0) where
  -- a distance d between two positions of sum s that share an address
  distance : (d s : ℕ) → d * (f1 + f2 * s) % k ≡ 0 → d % k ≡ 0
  distance d s e =
      sym (power_keeps k d (f2 * (s * v)) 16 keeps)
      ∙ nought k (d * (f2 ^ 16 / k * (s * v) ^ 16))
      (ap (λ (x : ℕ). d * x) (pow_mul f2 (s * v) 16)
      ∙ (let q : d * (f2 ^ 16 * (s * v) ^ 16) ≡ k * (d * (f2 ^ 16 / k * (s * v) ^ 16)) =
      omega (arith, ap (λ (x : ℕ). x * (d * (s * v) ^ 16)) (whole k (f2 ^ 16) power)) in q))
    where
      v : ℕ
      v = one.less

      -- d·f1·v more on both sides is a multiple of K
      keeps : d * (f2 * (s * v)) % k ≡ d % k
      keeps =
          mod_cancel k (d * (f1 * v)) (d * (f2 * (s * v))) d hk
          (nought k (d * (f1 + f2 * s) / k * v) (omega (arith, ap (λ (x : ℕ). x * v) (whole k (d * (f1 + f2 * s)) e)))
          ∙ sym (nought k (d * one.more) (omega (arith, ap (λ (x : ℕ). d * x) one.is))))

  ordered : (x d : ℕ) → x + d < k → quadratic_l k f1 f2 x ≡ quadratic_l k f1 f2 (x + d) → d ≡ 0
  unfolding quadratic_l
  ordered x d l e =
      sym (mod-eq_of_lt (let h : d < k = omega arith in h))
      ∙ distance d (x + (x + d))
      (no_more k (d * (f1 + f2 * (x + (x + d)))) (f1 * x + f2 * (x * x)) hk (ap (λ (z : ℕ). z % k) (omega arith) ∙ sym e))

  pub one_to_one : OneToOne (quadratic_l k f1 f2) k
  one_to_one = from_distance (quadratic_l k f1 f2) k ordered
