-- The set that a refusal of the writer is made of: the first that is refused, with those before it good.
use Rattle.std.specs.Prelude.{ℕ, List, [], ◌∷◌, ◌++◌, ◌≡◌, refl}
use Rattle.std.proofs.Common.{sym, ap, ◌∙◌}
use Rattle.laws.specs.Outcome.{Ruling, clear, stopped, first, settle, first_join, never, clear_then}
use Rattle.sets.specs.declared.Set.{Set}
use Rattle.plan_form.specs.Planned.{planned_lines}
use Rattle.plan_writer.specs.File.{all_lines, bad_of}

pub record FirstBad (ss : List Set) (s : Set) (k : ℕ) : Type 0 where
  pub before : List Set
  pub behind : List Set
  pub whole : ss ≡ before ++ (s ∷ behind)
  pub good_before : first (all_lines before) ≡ clear
  pub its_own : first (planned_lines s) ≡ stopped k

pub first_bad : (ss : List Set) (k : ℕ) → first (all_lines ss) ≡ stopped k → FirstBad ss (bad_of ss) k
unfolding bad_of
first_bad [] k e = absurd (never (sym e))
first_bad (s ∷ ss) k e = go (first (planned_lines s)) refl (sym (first_join (planned_lines s) (all_lines ss)) ∙ e) (first_bad ss k)
  where
    go : (r : Ruling) → first (planned_lines s) ≡ r → settle r stopped (first (all_lines ss)) ≡ stopped k → (first (all_lines ss) ≡ stopped k → FirstBad ss (bad_of ss) k)
        → FirstBad (s ∷ ss) (settle r (λ k. s) (bad_of ss)) k
    go clear q e r =
        let f = r e in
        record {
          before = s ∷ f.before;
          behind = f.behind;
          whole = ap (λ (l : List Set). s ∷ l) f.whole;
          good_before = clear_then (planned_lines s) (all_lines f.before) q ∙ f.good_before;
          its_own = f.its_own;
        }
    go (stopped j) q e r = record { before = []; behind = ss; whole = refl; good_before = refl; its_own = q ∙ e }
