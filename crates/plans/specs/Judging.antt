-- What counting plans and judging one answer: their lines in the order of the checks, 12, 4, 1, then the set's own; and how a plan's list compares with L.
use Rattle.std.specs.Prelude.{ℕ, suc, ◌+◌, ◌-◌, ◌≤◌, ◌<◌, true, false, cond, ◌≡◌, refl, eqb, ltb, length}
use mathlib.Core.List.{List, [], ◌∷◌}
use Rattle.std.proofs.Math.Path.{sym, ap, ap₂}
use Rattle.std.proofs.Common.{◌∙◌, zero-add, arith}
use borrow.Author.Tests.{eq-eqb, ne_eqb, lt-ltb, le-ltb}
use Rattle.laws.specs.Outcome.{Outcome, done, refused, Line, line, clear, stopped, first, judged}
use Rattle.sets.specs.declared.Set.{Set}
use Rattle.sets.specs.declared.Refusal.{Refusal}
use Rattle.sets.specs.Verdict.{refusal}
use Rattle.pieces.specs.Pieces.{list_of}
use Rattle.plan_form.specs.declared.Listing.{Listing}
use Rattle.plan_form.specs.Form.{plans_in, set_in, set_of, list_in, formed, file_line}
use Rattle.plan_form.specs.Lists.{wrongs, list_at, Listed, listed_list}
use Rattle.plan_form.specs.Planned.{planned_lines}
use Rattle.plan_judge.specs.declared.Tally.{Tally}
use Rattle.plan_judge.specs.Tally.{tally_of}
use Rattle.plans.specs.declared.judging.Compared.{Compared}
use Rattle.plans.specs.declared.judging.Compared.TheVariants.{Same, Wrong}

-- how two lists compare: the same, or the first position at which they differ and how many there are
abbrev pub same : Compared
same = Same

abbrev pub wrong : ℕ → ℕ → Compared
wrong p c = Wrong p c

-- read off the wrong positions
abbrev pub compared_by : List ℕ → Compared
compared_by [] = same
compared_by (p ∷ ps) = wrong p (suc (length ps))

unfoldable pub compared : List ℕ → List ℕ → Compared
compared xs ys = compared_by (wrongs xs ys)

-- read off a tally
abbrev pub compared_as : Tally → Compared
compared_as t = cond (eqb t.count 0) same (wrong t.first t.count)

pub tally_says : (ps : List ℕ) → compared_as (tally_of ps) ≡ compared_by ps
tally_says [] = refl
tally_says (p ∷ ps) = rw (ne_eqb (0 + suc (length ps)) 0 (λ e. omega arith)) (ap (wrong p) (zero-add (suc (length ps))))

-- 4: the file has no such plan
abbrev pub beyond_lines : List ℕ → ℕ → List Line → List Line
beyond_lines f plan ls = line 4 (eqb plan 0) ∷ line 4 (ltb (plans_in f) plan) ∷ ls

-- what a plan of a file of the form gets, counted from 0
unfoldable pub planned_of : List ℕ → ℕ → Outcome Refusal Compared
planned_of f i = judged (refusal (set_in f i)) (planned_lines (set_in f i)) (compared (list_in f i) (list_of (set_in f i)))

-- 12, 4, 1, then the set's own
unfoldable pub judge_lines : List ℕ → ℕ → List Line
judge_lines f plan = file_line f ∷ beyond_lines f plan (planned_lines (set_in f (plan - 1)))

-- what judging a plan has to say
unfoldable pub judged_of : List ℕ → ℕ → Outcome Refusal Compared
judged_of f plan =
    judged (refusal (set_in f (plan - 1))) (judge_lines f plan) (compared (list_in f (plan - 1)) (list_of (set_in f (plan - 1))))

-- what counting them has to say
unfoldable pub counted_of : List ℕ → Outcome Refusal ℕ
counted_of f = judged (refusal (set_of 0 0 0)) (file_line f ∷ []) (plans_in f)

pub told_equal : (t : Tally) → t.count ≡ 0 → same ≡ compared_as t
told_equal t e = sym (rw (eq-eqb t.count 0 e))

pub told_wrong : (t : Tally) → (t.count ≡ 0 → ⊥) → wrong t.first t.count ≡ compared_as t
told_wrong t n = sym (rw (ne_eqb t.count 0 n))

-- counting, return by return. 12 and 4 carry nothing of a set
module _ (f : List ℕ) where
  pub counted_refused : formed f ≡ false → refused (record { number = 12; size = 0 }) ≡ counted_of f
  unfolding counted_of refusal
  counted_refused e = sym (simp e)

  pub counted_plans : formed f ≡ true → {k : ℕ} → k ≡ plans_in f → done k ≡ counted_of f
  unfolding counted_of
  counted_plans e q = ap done q ∙ sym (simp e)

-- a plan, return by return
module _ (f : List ℕ) (i : ℕ) {s : Set} (q : s ≡ set_in f i) where
  pub planned_stops : {k : ℕ} → first (planned_lines s) ≡ stopped k → {x : Refusal} → x ≡ refusal s k → refused x ≡ planned_of f i
  unfolding planned_of
  planned_stops e r = ap refused r ∙ rw (← q) (sym (rw e))

  pub planned_compared : first (planned_lines s) ≡ clear → {list : Listing} → Listed f i list → {t : Tally} → t ≡ tally_of (wrongs (list_at f list) (list_of s))
      → done (compared_as t) ≡ planned_of f i
  unfolding planned_of compared
  planned_compared e {list} l t =
      ap (λ (x : Tally). done (compared_as x)) t ∙ ap done (tally_says (wrongs (list_at f list) (list_of s)))
      ∙ ap₂ (λ (xs : List ℕ) (u : Set). done (compared_by (wrongs xs (list_of u)))) (listed_list l) q
      ∙ rw (← q) (sym (rw e))

-- judging, return by return
module _ (f : List ℕ) (plan : ℕ) where
  pub judged_file : formed f ≡ false → refused (record { number = 12; size = 0 }) ≡ judged_of f plan
  unfolding judged_of judge_lines refusal
  judged_file e = sym (simp e)

  module _ (e : formed f ≡ true) where
    pub judged_none : plan ≡ 0 → refused (record { number = 4; size = 0 }) ≡ judged_of f plan
    unfolding judged_of judge_lines refusal
    judged_none z = sym (simp (e, eq-eqb plan 0 z))

    module _ (n : plan ≡ 0 → ⊥) {k : ℕ} (c : k ≡ plans_in f) where
      pub judged_beyond : k < plan → refused (record { number = 4; size = 0 }) ≡ judged_of f plan
      unfolding judged_of judge_lines refusal
      judged_beyond h = sym (simp (e, ne_eqb plan 0 n, lt-ltb (plans_in f) plan (rw c at h)))

      pub judged_plan : plan ≤ k → planned_of f (plan - 1) ≡ judged_of f plan
      unfolding judged_of judge_lines planned_of
      judged_plan h = sym (simp (e, ne_eqb plan 0 n, le-ltb (plans_in f) plan (rw c at h)))
