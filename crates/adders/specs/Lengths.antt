-- Two lengths asked as one.
use Rattle.std.specs.Prelude.{ℕ, Bool, true, false, cond, ◌&&◌, ◌≡◌, refl, eqb}
use Rattle.std.proofs.Common.{eqb-true}
use Rattle.std.proofs.lemmas.Bool.{eqb-false}

-- of two lengths, one that isn't n, if there is one
abbrev pub one_off : ℕ → ℕ → ℕ → ℕ
one_off n a b = cond (eqb a n) b a

-- the one of two lengths that isn't n says whether both are
pub off_both : (n a b : ℕ) → eqb (one_off n a b) n ≡ (eqb a n && eqb b n)
off_both n a b = go (eqb a n) refl
  where
    go : (t : Bool) → eqb a n ≡ t → eqb (cond t b a) n ≡ (t && eqb b n)
    go true e = refl
    go false e = e

pub both_on : (n x y : ℕ) → one_off n x y ≡ n → (x ≡ n) × (y ≡ n)
both_on n x y q = go (eqb x n) refl q
  where
    go : (t : Bool) → eqb x n ≡ t → cond t y x ≡ n → (x ≡ n) × (y ≡ n)
    go true d q = (eqb-true x n d, q)
    go false d q = absurd (eqb-false x n d q)
