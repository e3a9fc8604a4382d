-- What asking for the next difference of two files answers: 12 for either file, then the first difference from that place on.
use Rattle.std.specs.Prelude.{ℕ, ◌-◌, true, false, List, [], ◌∷◌, Option, ◌≡◌}
use Rattle.std.proofs.Math.Path.{sym, ap}
use Rattle.std.proofs.Common.{◌∙◌}
use Rattle.laws.specs.Outcome.{Outcome, done, refused, Line, judged}
use Rattle.sets.specs.declared.Refusal.{Refusal}
use Rattle.sets.specs.Verdict.{refusal}
use Rattle.plan_form.specs.Form.{set_of, formed, file_line}
use Rattle.plan_differ.specs.declared.Difference.{Difference}
use Rattle.plan_differ.specs.Differences.{differ_from, next_of}

abbrev pub files_lines : List ℕ → List ℕ → List Line
files_lines f g = file_line f ∷ file_line g ∷ []

unfoldable pub differed_of : List ℕ → List ℕ → ℕ → ℕ → Outcome Refusal (Option Difference)
differed_of f g plan position = judged (refusal (set_of 0 0 0)) (files_lines f g) (next_of (differ_from f g (plan - 1) position))

-- return by return. 12 carries nothing of a set
module _ (f g : List ℕ) (plan position : ℕ) where
  pub differ_left : formed f ≡ false → refused (record { number = 12; size = 0 }) ≡ differed_of f g plan position
  unfolding differed_of refusal
  differ_left e = sym (simp e)

  module _ (e : formed f ≡ true) where
    pub differ_right : formed g ≡ false → refused (record { number = 12; size = 0 }) ≡ differed_of f g plan position
    unfolding differed_of refusal
    differ_right h = sym (simp (e, h))

    pub differ_both : formed g ≡ true → {i : ℕ} → i ≡ plan - 1 → {d : Option Difference} → d ≡ next_of (differ_from f g i position) → done d ≡ differed_of f g plan position
    unfolding differed_of
    differ_both h q r = ap done (r ∙ ap (λ (i : ℕ). next_of (differ_from f g i position)) q) ∙ sym (simp (e, h))
