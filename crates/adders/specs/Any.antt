-- Whether a test passes at some place of a block.
use Rattle.std.specs.Prelude.{ℕ, zero, suc, ◌<◌, Bool, true, false, ◌||◌, ◌≡◌, refl}
use Rattle.std.proofs.lemmas.Bool.{false≢true}
use Rattle.std.proofs.Common.{⊎_elim, sym, ap, ap₂, ◌∙◌, eq-or-lt_of_le, le_of_suc-le-suc, arith}

-- .. of the places below n
abbrev pub any : (ℕ → Bool) → ℕ → Bool
any b zero = false
any b (suc n) = any b n || b n

-- there is such a place
pub record Somewhere (P : ℕ → Type 0) (n : ℕ) : Type 0 where
  pub place : ℕ
  pub below : place < n
  pub here : P place

pub any_same : (b c : ℕ → Bool) (n : ℕ) → ((t : ℕ) → t < n → b t ≡ c t) → any b n ≡ any c n
any_same b c zero e = refl
any_same b c (suc n) e = ap₂ (λ (x y : Bool). x || y) (any_same b c n (λ t h. e t (omega arith))) (e n (omega arith))

neither : (a b : Bool) → (a || b) ≡ false → (a ≡ false) × (b ≡ false)
neither true b e = absurd (false≢true (sym e))
neither false b e = (refl, e)

-- it passes nowhere
pub any_none : (b : ℕ → Bool) (n : ℕ) → any b n ≡ false → (t : ℕ) → t < n → b t ≡ false
any_none b zero e t h = absurd (omega arith)
any_none b (suc n) e t h =
    let p = neither (any b n) (b n) e in
    ⊎_elim (λ q. ap b q ∙ p.1) (λ q. any_none b n p.0 t q) (eq-or-lt_of_le (le_of_suc-le-suc h))

-- it passes somewhere
pub any_some : (b : ℕ → Bool) (n : ℕ) → any b n ≡ true → Somewhere (λ t. b t ≡ true) n
any_some b zero e = absurd (false≢true e)
any_some b (suc n) e = go (any b n) refl e (any_some b n)
  where
    go : (a : Bool) → any b n ≡ a → (a || b n) ≡ true → (any b n ≡ true → Somewhere (λ t. b t ≡ true) n) → Somewhere (λ t. b t ≡ true) (suc n)
    go true q e r = let s = r q in record { place = s.place; below = omega (arith, s.below); here = s.here }
    go false q e r = record { place = n; below = omega arith; here = e }
