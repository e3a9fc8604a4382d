-- The numbers that pass a test, in order: the first of them, those behind it, and when there are none. Rests on Keep.
use Rattle.std.specs.Prelude.{ℕ, zero, suc, ◌+◌, ◌-◌, ◌≤◌, ◌<◌, Bool, true, false, cond, ◌≡◌, refl}
use mathlib.Core.List.Memᴰ
use mathlib.Core.List.{List, [], ◌∷◌, Memᴰ}
use Rattle.std.proofs.Common.{⊎_elim, ap, ap₂, ◌∙◌, eq-or-lt_of_le, arith}
use Rattle.laws.specs.Keep.{keep}

-- the numbers that pass, from c on, n of them tested
abbrev pub passing : (ℕ → Bool) → ℕ → ℕ → List ℕ
passing ok = keep (λ x. x) ok

-- two tests that agree on them keep the same
pub passing_same : (ok also : ℕ → Bool) (c n : ℕ) → ((x : ℕ) → c ≤ x → x < c + n → ok x ≡ also x) → passing ok c n ≡ passing also c n
unfolding keep
passing_same ok also c zero h = refl
passing_same ok also c (suc n) h =
    rw (h c (omega arith) (omega arith), passing_same ok also (suc c) n (λ x l m. h x (omega arith) (omega arith)))

-- none passes
pub none_pass : (ok : ℕ → Bool) (c n : ℕ) → ((x : ℕ) → c ≤ x → x < c + n → ok x ≡ false) → passing ok c n ≡ []
unfolding keep
none_pass ok c zero h = refl
none_pass ok c (suc n) h = rw (h c (omega arith) (omega arith)) (none_pass ok (suc c) n (λ x l m. h x (omega arith) (omega arith)))

pub none_passed : (ok : ℕ → Bool) (c n : ℕ) → passing ok c n ≡ [] → (x : ℕ) → c ≤ x → x < c + n → ok x ≡ false
unfolding keep
none_passed ok c zero e x l h = absurd (omega arith)
none_passed ok c (suc n) e x l h = go (ok c) refl e (none_passed ok (suc c) n)
  where
    go : (t : Bool) → ok c ≡ t → cond t (c ∷ passing ok (suc c) n) (passing ok (suc c) n) ≡ []
        → (passing ok (suc c) n ≡ [] → (x : ℕ) → suc c ≤ x → x < suc c + n → ok x ≡ false) → ok x ≡ false
    go true q e r = let z : ◌≡◌ {A = ℕ} 0 1 = cc in absurd (omega arith)
    go false q e r = ⊎_elim (λ (z : c ≡ x). rw (← z) q) (λ z. r e x z (omega arith)) (eq-or-lt_of_le l)

-- what stands there passes, and is one of those tested
pub passing_mem : (ok : ℕ → Bool) (c n : ℕ) {x : ℕ} → Memᴰ x (passing ok c n) → (c ≤ x) × (x < c + n) × (ok x ≡ true)
unfolding keep
passing_mem ok c zero m = absurd (Memᴰ.not-nil m)
passing_mem ok c (suc n) {x} m = go (ok c) refl m (λ r. passing_mem ok (suc c) n r)
  where
    go : (b : Bool) → ok c ≡ b → Memᴰ x (cond b (c ∷ passing ok (suc c) n) (passing ok (suc c) n))
        → (Memᴰ x (passing ok (suc c) n) → (suc c ≤ x) × (x < suc c + n) × (ok x ≡ true)) → (c ≤ x) × (x < c + suc n) × (ok x ≡ true)
    go true q m r =
        ⊎_elim (λ (e : x ≡ c). (omega arith, omega arith, ap ok e ∙ q)) (λ l. let h = r l in (omega (arith, h.0), omega (arith, h.1), h.2))
        (Memᴰ.cases_cons m)
    go false q m r = let h = r m in (omega (arith, h.0), omega (arith, h.1), h.2)

-- the first that passes: none before it does, and behind it stand those from the next number on
pub record Foremost (ok : ℕ → Bool) (c n p : ℕ) (ps : List ℕ) : Type 0 where
  pub from : c ≤ p
  pub below : p < c + n
  pub passes : ok p ≡ true
  pub none_before : (x : ℕ) → c ≤ x → x < p → ok x ≡ false
  pub rest : ps ≡ passing ok (p + 1) (c + n - (p + 1))

pub foremost : (ok : ℕ → Bool) (c n p : ℕ) (ps : List ℕ) → passing ok c n ≡ p ∷ ps → Foremost ok c n p ps
unfolding keep
foremost ok c zero p ps e = let z : ◌≡◌ {A = ℕ} 0 1 = cc in absurd (omega arith)
foremost ok c (suc n) p ps e = go (ok c) refl e (foremost ok (suc c) n p ps)
  where
    go : (b : Bool) → ok c ≡ b → cond b (c ∷ passing ok (suc c) n) (passing ok (suc c) n) ≡ p ∷ ps
        → (passing ok (suc c) n ≡ p ∷ ps → Foremost ok (suc c) n p ps) → Foremost ok c (suc n) p ps
    go true q e r =
        let z : c ≡ p = cc in
        let t : ps ≡ passing ok (suc c) n = cc in
        record {
          from = omega arith;
          below = omega arith;
          passes = rw (← z) q;
          none_before = λ x a b. absurd (let y : ⊥ = omega arith in y);
          rest = t ∙ ap₂ (passing ok) (let y : suc c ≡ p + 1 = omega arith in y) (let y : n ≡ c + suc n - (p + 1) = omega arith in y);
        }
    go false q e r =
        let h = r e in
        record {
          from = omega (arith, h.from);
          below = omega (arith, h.below);
          passes = h.passes;
          none_before = λ x a b. ⊎_elim (λ (z : c ≡ x). rw (← z) q) (λ z. h.none_before x z b) (eq-or-lt_of_le a);
          rest = h.rest ∙ ap (passing ok (p + 1)) (let y : suc c + n - (p + 1) ≡ c + suc n - (p + 1) = omega arith in y);
        }
