-- What judging says of a plan: equal exactly if no line applies and its list is L; else the first wrong position and how many there are, of its list and L.
use Prim.Native.Nat.{ℕ, suc, ◌-◌}
use mathlib.Core.List.{List, [], ◌∷◌}
use Rattle.std.specs.Prelude.{◌↔◌, length}
use Rattle.std.proofs.Math.Path.{◌≡◌, refl, ap}
use Rattle.std.proofs.Common.{◌∙◌, arith}
use Rattle.laws.specs.Outcome.{done, Clear, done_clear, clear_done}
use Rattle.sets.specs.Verdict.{refusal}
use Rattle.pieces.specs.Pieces.{list_of}
use Rattle.plan_form.specs.Form.{set_in, list_in}
use Rattle.plan_form.specs.Lists.{wrongs}
use Rattle.plan_form.specs.Right.{none_wrong, Wrongly, first_wrong}
use Rattle.plans.specs.Judging.{same, wrong, compared_by, compared, judge_lines, judged_of}

module _ (xs ys : List ℕ) where
  same_exactly : (compared xs ys ≡ same) ↔ (xs ≡ ys)
  unfolding compared
  same_exactly = (λ e. (none_wrong xs ys).0 (empty (wrongs xs ys) e), λ e. ap compared_by ((none_wrong xs ys).1 e))
    where
      empty : (l : List ℕ) → compared_by l ≡ same → l ≡ []
      empty [] e = refl
      empty (p ∷ ps) e = let z : ◌≡◌ {A = ℕ} 0 1 = cc in absurd (omega arith)

  wrong_says : (p c : ℕ) → compared xs ys ≡ wrong p c → Wrongly xs ys p c
  unfolding compared
  wrong_says p c e = go (wrongs xs ys) refl e
    where
      go : (l : List ℕ) → wrongs xs ys ≡ l → compared_by l ≡ wrong p c → Wrongly xs ys p c
      go [] q e = let z : ◌≡◌ {A = ℕ} 0 1 = cc in absurd (omega arith)
      go (x ∷ l) q e =
          let a : x ≡ p = cc in
          let b : suc (length l) ≡ c = cc in
          rw (← a, ← b) (first_wrong xs ys x l q)

module _ (f : List ℕ) (plan : ℕ) where
  abbrev its_list : List ℕ
  its_list = list_in f (plan - 1)

  abbrev its_l : List ℕ
  its_l = list_of (set_in f (plan - 1))

  pub judged_equal : (judged_of f plan ≡ done same) ↔ (Clear (judge_lines f plan) × (its_list ≡ its_l))
  unfolding judged_of
  judged_equal = (
    λ e. let d = done_clear (refusal (set_in f (plan - 1))) (compared its_list its_l) (judge_lines f plan) same e in (d.0, (same_exactly its_list its_l).0 d.1),
    λ h. clear_done (refusal (set_in f (plan - 1))) (compared its_list its_l) (judge_lines f plan) h.0 ∙ ap done ((same_exactly its_list its_l).1 h.1),
  )

  pub judged_wrong : (first count : ℕ) → judged_of f plan ≡ done (wrong first count) → Clear (judge_lines f plan) × Wrongly its_list its_l first count
  unfolding judged_of
  judged_wrong first count e =
      let d = done_clear (refusal (set_in f (plan - 1))) (compared its_list its_l) (judge_lines f plan) (wrong first count) e in
      (d.0, wrong_says its_list its_l first count d.1)
