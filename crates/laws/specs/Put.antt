-- One entry written over in a slice that a walk without padding has filled: this is the slice of a walk along the rule with that entry. Over any
-- element.
use Rattle.std.specs.Prelude.{ℕ, zero, suc, ◌+◌, ◌-◌, ◌≤◌, ◌<◌, Bool, true, false, cond, List, [], ◌∷◌, ◌++◌, ◌≡◌, refl, leb, ltb, eqb, set}
use Rattle.std.proofs.Common.{ap, sym, ◌∙◌, arith, ltb-true, ltb-false, leb-true, le-leb, eq-eqb, ne_eqb}
use Rattle.std.proofs.Math.Decide.{ℕ_discrete}
use Rattle.std.proofs.lemmas.Bool.{lt-leb}
use Rattle.laws.specs.Run.{run}

module _ {A : Type 0} where
  -- the rule f with v at x
  abbrev pub but : (ℕ → A) → ℕ → A → ℕ → A
  but f x v y = cond (eqb y x) v (f y)

  -- the slice of a walk from cell c on with v at the place of cell x, if it has that place
  abbrev pub put_at : ℕ → ℕ → A → List A → List A
  put_at c x v l = cond (leb c x) (set l (x - c) v) l

  module _ (f : ℕ → A) (x : ℕ) (v : A) where
    -- m entries from cell c on, and the rest of the slice, which is empty where x lies behind them
    pub put_run : (c m : ℕ) (rest : List A) → (c + m ≤ x → rest ≡ []) → put_at c x v (run f c m ++ rest) ≡ run (but f x v) c m ++ rest
    put_run c zero rest h = none (leb c x) refl
      where
        none : (b : Bool) → leb c x ≡ b → cond b (set rest (x - c) v) rest ≡ rest
        none true e = rw (h (omega (arith, leb-true c x e)))
        none false e = refl
    put_run c (suc m) rest h = go (ℕ_discrete c x) (put_run (suc c) m rest (λ l. h (omega arith)))
      where
        later : List A
        later = run (but f x v) (suc c) m ++ rest

        either : (c ≡ x → ⊥) → (b : Bool) → ltb c x ≡ b → put_at (suc c) x v (run f (suc c) m ++ rest) ≡ later → put_at c x v (f c ∷ (run f (suc c) m ++ rest)) ≡ f c ∷ later
        either n true e r =
            let l = ltb-true c x e in
            rw (le-leb c x (omega arith), let z : x - c ≡ suc (x - suc c) = omega arith in z)
            (ap (λ (l : List A). f c ∷ l) (sym (rw (le-leb (suc c) x (omega arith)) refl) ∙ r))
        either n false e r =
            let l : x < c = let z : ¬ (c ≡ x) = n in omega (arith, ltb-false c x e) in
            rw (lt-leb c x l) (ap (λ (l : List A). f c ∷ l) (sym (rw (lt-leb (suc c) x (omega arith)) refl) ∙ r))

        go : Dec (c ≡ x) → put_at (suc c) x v (run f (suc c) m ++ rest) ≡ later → put_at c x v (f c ∷ (run f (suc c) m ++ rest)) ≡ but f x v c ∷ later
        go (yes e) r =
            rw (eq-eqb c x e, le-leb c x (omega arith), let z : x - c ≡ 0 = omega arith in z)
            (ap (λ (l : List A). v ∷ l) (sym (rw (lt-leb (suc c) x (omega arith)) refl) ∙ r))
        go (no n) r = rw (ne_eqb c x n) (either n (ltb c x) refl r)
