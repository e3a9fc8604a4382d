-- A written file read back: it is of the form, of the length that was told, and each of its plans is judged equal. Different lists of sets make different
-- files.
use Rattle.std.specs.Prelude.{ℕ, zero, suc, ◌+◌, ◌-◌, ◌/◌, ◌≤◌, ◌<◌, true, List, ◌≡◌, refl, length, get_or}
use Rattle.std.proofs.Math.Bool.{not}
use Rattle.std.proofs.Common.{sym, ◌∙◌, zero-add, ext_get_or}
use Rattle.std.proofs.Math.Path.{ap}
use native.Mathlib.Omega.{arith}
use borrow.Author.Tests.{ne_eqb, le-ltb}
use Rattle.laws.specs.Members.{All}
use Rattle.laws.specs.Outcome.{done, first_clear}
use Rattle.laws.specs.Run.{run, length_run, get_or_run}
use Rattle.sets.specs.declared.Set.{Set}
use Rattle.plan_form.specs.Form.{set_of, plans_in, set_in, formed}
use Rattle.plan_form.specs.Planned.{planned_lines}
use Rattle.plan_writer.specs.File.{set_at, sets_in, file_of}
use Rattle.plan_writer.specs.Lengths.{file_length_lem}
use Rattle.plan_writer.specs.Back.{GoodSets, plans_read, written_formed, plan_read, good_at}
use Rattle.plans.specs.Judging.{same, judge_lines, judged_of, counted_of, counted_plans}
use Rattle.plans.specs.Laws.{judged_equal}
use Rattle.plans.specs.Writing.{length_of}
use Rattle.plans.proofs.WritingLaws.{length_says}

-- the sets of a slice of numbers have stream 1 and no factors
of_three : (l : List ℕ) (i k : ℕ) → All (λ s. set_of s.profile s.bits s.n ≡ s) (run (set_at l) i k)
unfolding set_at
of_three l i zero = tt
of_three l i (suc k) = (refl, of_three l (suc i) k)

module _ (l : List ℕ) {b : ℕ} (q : length_of l ≡ done b) where
  many : length (sets_in l) ≡ length l / 3
  many = length_run (set_at l) 0 (length l / 3)

  pub good_sets : GoodSets (sets_in l)
  good_sets =
      let g = length_says l (sym q) in
      record {
        three = of_three l 0 (length l / 3);
        good = g.good;
        some = omega (arith, many, g.some);
        few = omega (arith, many, g.few);
        size = omega (arith, g.long, g.small);
      }

  -- plan j, counted from 0
  equal_at : (j : ℕ) → j < length (sets_in l) → judged_of (file_of (sets_in l)) (j + 1) ≡ done same
  unfolding judge_lines
  equal_at j h =
      let ss = sets_in l in
      let e : j + 1 - 1 ≡ j = omega arith in
      let r = plan_read ss good_sets j h in
      (judged_equal (file_of ss) (j + 1)).1 (
        (
          ap not (written_formed ss good_sets),
          (
            ne_eqb (j + 1) 0 (λ z. omega arith),
            (
              le-ltb (plans_in (file_of ss)) (j + 1) (omega (arith, plans_read ss good_sets)),
              rw (e, r.set_is) (first_clear (planned_lines (get_or ss j (set_of 0 0 0))) (good_at ss j good_sets.good h)),
            ),
          ),
        ),
        rw (e, r.set_is) r.list_is,
      )

  pub written_formed_so : formed (file_of (sets_in l)) ≡ true
  written_formed_so = written_formed (sets_in l) good_sets

  pub written_long : length (file_of (sets_in l)) ≡ b
  written_long = file_length_lem (sets_in l) ∙ sym (length_says l (sym q)).long

  -- plan by plan the sets that were given
  pub written_sets : (plan : ℕ) → 1 ≤ plan → plan ≤ length l / 3 → set_in (file_of (sets_in l)) (plan - 1) ≡ set_at l (plan - 1)
  written_sets plan h k =
      (plan_read (sets_in l) good_sets (plan - 1) (omega (arith, many))).set_is
      ∙ get_or_run (set_at l) 0 (length l / 3) (plan - 1) (set_of 0 0 0) (omega arith) ∙ ap (set_at l) (zero-add (plan - 1))

  pub written_counted : counted_of (file_of (sets_in l)) ≡ done (length l / 3)
  written_counted = sym (counted_plans (file_of (sets_in l)) written_formed_so (sym many ∙ plans_read (sets_in l) good_sets))

  pub written_equal : (plan : ℕ) → 1 ≤ plan → plan ≤ length l / 3 → judged_of (file_of (sets_in l)) plan ≡ done same
  written_equal plan h k =
      ap (judged_of (file_of (sets_in l))) (let e : plan ≡ plan - 1 + 1 = omega arith in e) ∙ equal_at (plan - 1) (omega (arith, many))

-- a file says its sets
pub files_apart : (ss us : List Set) → GoodSets ss → GoodSets us → file_of ss ≡ file_of us → ss ≡ us
files_apart ss us a b e = ext_get_or (set_of 0 0 0) ss us long at
  where
    long : length ss ≡ length us
    long = plans_read ss a ∙ ap plans_in e ∙ sym (plans_read us b)

    at : (j : ℕ) → j < length ss → get_or ss j (set_of 0 0 0) ≡ get_or us j (set_of 0 0 0)
    at j h = sym (plan_read ss a j h).set_is ∙ ap (λ (f : List ℕ). set_in f j) e ∙ (plan_read us b j (omega (arith, long))).set_is
