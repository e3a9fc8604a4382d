-- Asking for difference after difference: from plan 1, position 0, each time from the place after the last one, until there is none. What is told are all the
-- differences, in file order, and nothing else.
use Rattle.std.specs.Prelude.{ℕ, ◌+◌, ◌-◌, true, List, [], ◌∷◌, Option, Some, None, ◌≡◌, refl}
use Rattle.std.proofs.Common.{sym, ap, ap₂, ◌∙◌, arith}
use Rattle.laws.specs.Outcome.{done, done_clear}
use Rattle.sets.specs.Verdict.{refusal}
use Rattle.plan_form.specs.Form.{set_of, formed}
use Rattle.plan_differ.specs.declared.Difference.{Difference}
use Rattle.plan_differ.specs.declared.Difference.TheVariants.{Missing, Header, At}
use Rattle.plan_differ.specs.Differences.{differ_from, differences, next_of}
use Rattle.plan_differ.specs.Listed.{plan_after, place_after, differ_tail}
use Rattle.plans.specs.Differing.{files_lines, differed_of, differ_both}

-- the place after a difference: the next plan behind one of a whole plan, else the next position
abbrev pub plan_next : Difference → ℕ
plan_next (Missing plan) = plan + 1
plan_next (Header plan) = plan + 1
plan_next (At plan p a b) = plan

-- calls from a place on, and what they are told
module _ (f g : List ℕ) where
  pub data Asked : ℕ → ℕ → List Difference → Type 0 where
    last : {plan position : ℕ} → differed_of f g plan position ≡ done None → Asked plan position []
    more : {plan position : ℕ} {d : Difference} {ds : List Difference} → differed_of f g plan position ≡ done (Some d)
        → Asked (plan_next d) (place_after d) ds → Asked plan position (d ∷ ds)

  said : (plan position : ℕ) {n : Option Difference} → differed_of f g plan position ≡ done n → next_of (differ_from f g (plan - 1) position) ≡ n
  unfolding differed_of
  said plan position {n} e = (done_clear (refusal (set_of 0 0 0)) (next_of (differ_from f g (plan - 1) position)) (files_lines f g) n e).1

  after_is : (d : Difference) → plan_next d - 1 ≡ plan_after d
  after_is (Missing plan) = omega arith
  after_is (Header plan) = omega arith
  after_is (At plan p a b) = refl

  -- whatever is told so is the list of differences from there on
  told_are : {plan position : ℕ} {ds : List Difference} → Asked plan position ds → ds ≡ differ_from f g (plan - 1) position
  told_are (last {plan} {position} e) = none (differ_from f g (plan - 1) position) (said plan position e)
    where
      none : (l : List Difference) → next_of l ≡ None → [] ≡ l
      none [] e = refl
      none (d ∷ l) e = let z : ◌≡◌ {A = ℕ} 0 1 = cc in absurd (omega arith)
  told_are (more {plan} {position} {d} {ds} e a) = go (differ_from f g (plan - 1) position) refl (said plan position e) (told_are a)
    where
      go : (l : List Difference) → differ_from f g (plan - 1) position ≡ l → next_of l ≡ Some d → ds ≡ differ_from f g (plan_next d - 1) (place_after d) → d ∷ ds ≡ l
      go [] q e r = let z : ◌≡◌ {A = ℕ} 0 1 = cc in absurd (omega arith)
      go (x ∷ l) q e r =
          let y : d ≡ x = cc in
          ap₂ (λ (c : Difference) (cs : List Difference). c ∷ cs) y
          (r ∙ ap (λ (i : ℕ). differ_from f g i (place_after d)) (after_is d)
          ∙ ap (λ (c : Difference). differ_from f g (plan_after c) (place_after c)) y
          ∙ sym (differ_tail f g (plan - 1) position x l q))

  -- and of two files of the form all of them are told
  module _ (a : formed f ≡ true) (b : formed g ≡ true) where
    tells : (plan position : ℕ) → differed_of f g plan position ≡ done (next_of (differ_from f g (plan - 1) position))
    tells plan position = sym (differ_both f g plan position a b refl refl)

    all_told : (ds : List Difference) (plan position : ℕ) → differ_from f g (plan - 1) position ≡ ds → Asked plan position ds
    all_told [] plan position e = last (tells plan position ∙ ap (λ (l : List Difference). done (next_of l)) e)
    all_told (d ∷ ds) plan position e =
        more (tells plan position ∙ ap (λ (l : List Difference). done (next_of l)) e)
        (all_told ds (plan_next d) (place_after d) (ap (λ (i : ℕ). differ_from f g i (place_after d)) (after_is d) ∙ sym (differ_tail f g (plan - 1) position d ds e)))

    pub asked_all : Asked 1 0 (differences f g)
    asked_all = all_told (differences f g) 1 0 refl

  pub asked_are : {ds : List Difference} → Asked 1 0 ds → ds ≡ differences f g
  asked_are a = told_are a
