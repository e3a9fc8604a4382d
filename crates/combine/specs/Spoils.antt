-- 13 at a place, as a sentence.
use Rattle.std.specs.Prelude.{ℕ, Bool, ◌&&◌, ◌||◌, ◌≢◌, ◌⊎◌, ◌≡◌, eqb, Float}
use Rattle.std.proofs.Math.Bool.{true, false, not, true≢false}
use Rattle.std.proofs.Common.{inl, sym, ◌∙◌}
use Rattle.std.proofs.Math.Logic.{inr}
use Rattle.std.proofs.Math.Path.{refl}
use Rattle.std.specs.Float.Ieee.{add, binary32}
use Rattle.std.specs.Float.Ieee.Scale.{finite}
use borrow.Author.Tests.{eq-eqb, ne_eqb, eqb-true, eqb-false, not-true}
use Rattle.laws.specs.Members.{both}
use Rattle.positions.specs.declared.Running.{Running}
use Rattle.positions.specs.Heard.{spoils}

-- not finite: an infinity, or not-a-number
abbrev pub NotFinite : Float → Type 0
NotFinite x = finite x ≡ false

-- 13: a present value, a stored sum whose count isn't 0, or the sum of these two isn't finite
abbrev pub Spoils : ℕ → Float → Running → Type 0
Spoils p v r =
    ((p ≡ 1) × NotFinite v)
    ⊎ (((r.count ≢ 0) × NotFinite r.sum)
    ⊎ ((p ≡ 1) × (r.count ≢ 0) × NotFinite (add binary32 r.sum v)))

or_cases : (a b : Bool) → (a || b) ≡ true → (a ≡ true) ⊎ (b ≡ true)
or_cases true b e = inl refl
or_cases false b e = inr e

there : (n : ℕ) → not (eqb n 0) ≡ true → n ≢ 0
there n e = eqb-false n 0 (not-true (eqb n 0) e)

module _ (p : ℕ) (v : Float) (r : Running) where
  pub spoils_so : spoils p v r ≡ true → Spoils p v r
  unfolding spoils
  spoils_so e = one (or_cases _ _ e)
    where
      two : ((not (eqb r.count 0) && not (finite r.sum)) ≡ true) ⊎ ((eqb p 1 && (not (eqb r.count 0) && not (finite (add binary32 r.sum v)))) ≡ true) → Spoils p v r
      two (inl q) = let z = both _ _ q in inr (inl (there r.count z.0, not-true _ z.1))
      two (inr q) = let z = both _ _ q in let y = both _ _ z.1 in inr (inr (eqb-true p 1 z.0, there r.count y.0, not-true _ y.1))

      one : ((eqb p 1 && not (finite v)) ≡ true)
          ⊎ (((not (eqb r.count 0) && not (finite r.sum)) || (eqb p 1 && (not (eqb r.count 0) && not (finite (add binary32 r.sum v))))) ≡ true) → Spoils p v r
      one (inl q) = let z = both _ _ q in inl (eqb-true p 1 z.0, not-true _ z.1)
      one (inr q) = two (or_cases _ _ q)

  pub spoils_not : spoils p v r ≡ false → Spoils p v r → ⊥
  unfolding spoils
  spoils_not e (inl q) = true≢false (sym (rw (eq-eqb p 1 q.0, q.1)) ∙ e)
  spoils_not e (inr (inl q)) = true≢false (sym (rw (ne_eqb r.count 0 q.0, q.1) (or_true (eqb p 1 && not (finite v)))) ∙ e)
    where
      or_true : (a : Bool) → (a || true) ≡ true
      or_true true = refl
      or_true false = refl
  spoils_not e (inr (inr q)) =
      true≢false (sym (rw (eq-eqb p 1 q.0, ne_eqb r.count 0 q.1, q.2) (or_all (not (finite v)) (not (finite r.sum)))) ∙ e)
    where
      or_all : (a b : Bool) → (a || (b || true)) ≡ true
      or_all true b = refl
      or_all false true = refl
      or_all false false = refl
