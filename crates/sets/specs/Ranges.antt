-- The range that the factors of the quadratic interleaver must have, as a sentence: f1 and f2 are from 1 to K - 1; and that the test of it says what the sentence
-- does. (Of couples: specs/Test.antt of couples.)
use Rattle.std.specs.Prelude.{ℕ, ◌≤◌, ◌<◌, true, false, ◌&&◌, ◌⊎◌, ◌≡◌, ltb}
use Rattle.std.proofs.Common.{inl, inr, arith, ltb-true, ltb-false}
use Rattle.laws.specs.Members.{both, one_fails}
use Rattle.quadratic.specs.Formula.{within}

-- f is 0 or not below k
abbrev pub Outside : ℕ → ℕ → Type 0
Outside k f = (f ≡ 0) ⊎ (k ≤ f)

-- one factor
outside : (k f : ℕ) → within k f ≡ false → Outside k f
outside k f e = one_fails (ltb 0 f) (ltb f k) (λ e. omega (arith, ltb-false 0 f e)) (ltb-false f k) e

inside : (k f : ℕ) → within k f ≡ true → (0 < f) × (f < k)
inside k f e = let p = both (ltb 0 f) (ltb f k) e in (ltb-true 0 f p.0, ltb-true f k p.1)

pub not_outside : {k f : ℕ} → (0 < f) × (f < k) → Outside k f → ⊥
not_outside p (inl o) = omega (arith, p.0)
not_outside p (inr o) = omega (arith, p.1)

-- the two of the quadratic interleaver
module _ (k f g : ℕ) where
  pub one_outside : (within k f && within k g) ≡ false → Outside k f ⊎ Outside k g
  one_outside e = one_fails (within k f) (within k g) (outside k f) (outside k g) e

  pub both_inside : (within k f && within k g) ≡ true → ((0 < f) × (f < k)) × ((0 < g) × (g < k))
  both_inside e = let p = both (within k f) (within k g) e in (inside k f p.0, inside k g p.1)
