-- The lines of a call as the paper writes them: each a number and a sentence, true exactly when the line applies. The number that a call says
-- is that of the first true sentence. Over any sentences.
use Rattle.std.specs.Prelude.{ℕ, ◌≤◌, ◌<◌, Bool, true, false, cond, not, List, [], ◌∷◌, ◌≢◌, ◌↔◌, ◌⊎◌, ◌≡◌, refl, eqb, leb, ltb}
use Rattle.std.proofs.Common.{arith, inl, inr, sym, ap, ◌∙◌, not-le_of_lt, leb-true, leb-false, ltb-true, ltb-false, eqb-true}
use Rattle.std.proofs.lemmas.Bool.{eqb-false, not-true, not-false}
use Rattle.laws.specs.Outcome.{Outcome, done, refused, Line, line, Ruling, clear, stopped, first, settle, judged, after, never}

-- a refusal's number, and the sentence that says when it is given
pub record Sentence : Type 1 where
  pub number : ℕ
  pub holds : Type 0

abbrev pub sentence : ℕ → Type 0 → Sentence
sentence k p = record { number = k; holds = p }

-- sentence k holds, and none before it does
abbrev pub FirstTrue : List Sentence → ℕ → Type 0
FirstTrue [] k = ⊥
FirstTrue (p ∷ ps) k = ((p.number ≡ k) × p.holds) ⊎ ((p.holds → ⊥) × FirstTrue ps k)

-- the lines that the code tests, told by the sentences of the paper: each line where C holds and no line before it applies
pub data Told : Type 0 → List Line → List Sentence → Type 1 where
  none : {C : Type 0} → Told C [] []
  more : {C : Type 0} {k : ℕ} {b : Bool} {p : Type 0} {ls : List Line} {ps : List Sentence}
      → (C → b ≡ true → p) → (C → b ≡ false → p → ⊥) → Told (C × (b ≡ false)) ls ps → Told C (line k b ∷ ls) (sentence k p ∷ ps)

-- lines that test whether two numbers differ, or whether one reaches another
module _ {C : Type 0} {ls : List Line} {ps : List Sentence} (k a b : ℕ) where
  pub told_differ : Told (C × (not (eqb a b) ≡ false)) ls ps → Told C (line k (not (eqb a b)) ∷ ls) (sentence k (a ≢ b) ∷ ps)
  told_differ t = more {p = a ≢ b} (λ c e. eqb-false a b (not-true (eqb a b) e)) (λ c e n. n (eqb-true a b (not-false (eqb a b) e))) t

  pub told_reach : Told (C × (leb a b ≡ false)) ls ps → Told C (line k (leb a b) ∷ ls) (sentence k (a ≤ b) ∷ ps)
  told_reach t = more {p = a ≤ b} (λ c. leb-true a b) (λ c e n. not-le_of_lt (leb-false a b e) n) t

  pub told_past : Told (C × (ltb a b ≡ false)) ls ps → Told C (line k (ltb a b) ∷ ls) (sentence k (a < b) ∷ ps)
  told_past t = more {p = a < b} (λ c. ltb-true a b) (λ c e n. not-le_of_lt n (ltb-false a b e)) t

pub told_first : {C : Type 0} {ls : List Line} {ps : List Sentence} → Told C ls ps → C → (k : ℕ) → (first ls ≡ stopped k) ↔ FirstTrue ps k
told_first none c k = (λ e. never (sym e), λ h. absurd h)
told_first (more {k = n} {b = b} {p = p} {ls = ls} {ps = ps} yes₁ no₁ t) c k = go b refl (λ e. told_first t (c, e) k)
  where
    go : (d : Bool) → b ≡ d → (b ≡ false → (first ls ≡ stopped k) ↔ FirstTrue ps k)
        → (cond d (stopped n) (first ls) ≡ stopped k) ↔ (((n ≡ k) × p) ⊎ ((p → ⊥) × FirstTrue ps k))
    go true e r = (λ q. inl (let z : n ≡ k = cc in z, yes₁ c e), λ h. there h)
      where
        there : ((n ≡ k) × p) ⊎ ((p → ⊥) × FirstTrue ps k) → stopped n ≡ stopped k
        there (inl h) = ap stopped h.0
        there (inr h) = absurd (h.0 (yes₁ c e))
    go false e r = (λ q. inr (no₁ c e, (r e).0 q), λ h. there h)
      where
        there : ((n ≡ k) × p) ⊎ ((p → ⊥) × FirstTrue ps k) → first ls ≡ stopped k
        there (inl h) = absurd (no₁ c e h.1)
        there (inr h) = (r e).1 h.1

module _ {C : Type 0} {ls : List Line} {ps : List Sentence} (t : Told C ls ps) (c : C) where
  -- a number is said exactly when its sentence is the first true one. give makes a refusal of a number, and different ones of different numbers
  pub said_exactly : {R A : Type 0} (give : ℕ → R) → ((j k : ℕ) → give j ≡ give k → j ≡ k) → (a : A) (k : ℕ)
      → (judged give ls a ≡ refused (give k)) ↔ FirstTrue ps k
  said_exactly {R} {A} give apart a k = (λ e. (told_first t c k).0 (stop (first ls) refl e), λ h. rw ((told_first t c k).1 h))
    where
      stop : (r : Ruling) → first ls ≡ r → settle {A = Outcome R A} r (λ n. refused (give n)) (done a) ≡ refused (give k) → first ls ≡ stopped k
      stop clear q e = let z : ◌≡◌ {A = ℕ} 0 1 = cc in absurd (omega arith)
      stop (stopped n) q e = let z : give n ≡ give k = cc in q ∙ ap stopped (apart n k z)

  -- and then a lent buffer is what it was
  pub kept_alone : {B : Type 0} (new old : B) (k : ℕ) → FirstTrue ps k → after ls new old ≡ old
  kept_alone new old k h = rw ((told_first t c k).1 h)
