-- What the number given back tells of plan files, as Zero.antt has it of the other calls: 0 is given exactly when the call is done, any other number is that of
-- the first line that applies, and what stands behind a pointer is like any lent buffer.
use Rattle.std.specs.Prelude.{ℕ, ◌-◌, List, [], ◌∷◌, ◌++◌, ◌↔◌, ◌≢◌, ◌≡◌}
use Rattle.laws.specs.Outcome.{done, after, First}
use Rattle.sets.specs.declared.Set.{Set}
use Rattle.sets.specs.Verdict.{refusal, refusal_number}
use Rattle.pieces.specs.Pieces.{list_of}
use Rattle.plan_form.specs.Form.{plans_in, set_in, set_of, list_in, file_line}
use Rattle.plan_form.specs.Planned.{planned_lines}
use Rattle.plan_writer.specs.File.{sets_in, file_length, all_lines, bad_of}
use Rattle.plans.specs.declared.judging.Compared.{Compared}
use Rattle.plans.specs.Judging.{compared, judge_lines, judged_of, counted_of}
use Rattle.plans.specs.Writing.{count_lines, size_lines, room_lines, length_lines, write_lines, length_of, written_of}
use Rattle.flat.specs.Flat.{number_of, out_of}
use Rattle.lent_plans.specs.Plans.{first_of, wrong_of}
use Rattle.tender.specs.Zero.{Numbered, positive, numbered_join, set_numbered, zero_is_done, number_is_first, out_is_after}

planned_numbered : (s : Set) → Numbered (planned_lines s)
planned_numbered s = (positive 0, set_numbered s)

all_numbered : (ss : List Set) → Numbered (all_lines ss)
all_numbered [] = tt
all_numbered (s ∷ ss) = numbered_join (planned_lines s) (all_lines ss) (planned_numbered s) (all_numbered ss)

judge_numbered : (f : List ℕ) (plan : ℕ) → Numbered (judge_lines f plan)
unfolding judge_lines
judge_numbered f plan = (positive 11, (positive 3, (positive 3, planned_numbered (set_in f (plan - 1)))))

length_numbered : (l : List ℕ) → Numbered (length_lines l)
unfolding length_lines
length_numbered l =
    numbered_join (count_lines l) (all_lines (sets_in l) ++ size_lines l) (positive 11, (positive 11, (positive 11, tt)))
    (numbered_join (all_lines (sets_in l)) (size_lines l) (all_numbered (sets_in l)) (positive 11, tt))

write_numbered : (l : List ℕ) (room : ℕ) → Numbered (write_lines l room)
unfolding write_lines
write_numbered l room = numbered_join (length_lines l) (room_lines l room) (length_numbered l) (positive 5, tt)

module _ (f : List ℕ) where
  pub plan_count_zero : (number_of (counted_of f) ≡ 0) ↔ (counted_of f ≡ done (plans_in f))
  unfolding counted_of
  plan_count_zero =
      zero_is_done (λ x. x.number) (refusal (set_of 0 0 0)) (refusal_number (set_of 0 0 0)) (file_line f ∷ []) (plans_in f) (positive 11, tt)

  pub plan_count_first : (k : ℕ) → k ≢ 0 → (number_of (counted_of f) ≡ k) ↔ First (file_line f ∷ []) k
  unfolding counted_of
  plan_count_first k p =
      number_is_first (λ x. x.number) (refusal (set_of 0 0 0)) (refusal_number (set_of 0 0 0)) (file_line f ∷ []) (plans_in f) (positive 11, tt) k p

  pub plan_count_out : (old : ℕ) → out_of (counted_of f) (λ (k : ℕ). k) old ≡ after (file_line f ∷ []) (plans_in f) old
  unfolding counted_of
  plan_count_out old = out_is_after (refusal (set_of 0 0 0)) (file_line f ∷ []) (plans_in f) (λ (k : ℕ). k) old

  module _ (plan : ℕ) where
    abbrev said : Compared
    said = compared (list_in f (plan - 1)) (list_of (set_in f (plan - 1)))

    pub plan_judge_zero : (number_of (judged_of f plan) ≡ 0) ↔ (judged_of f plan ≡ done said)
    unfolding judged_of
    plan_judge_zero =
        zero_is_done (λ x. x.number) (refusal (set_in f (plan - 1))) (refusal_number (set_in f (plan - 1))) (judge_lines f plan) said (judge_numbered f plan)

    pub plan_judge_first : (k : ℕ) → k ≢ 0 → (number_of (judged_of f plan) ≡ k) ↔ First (judge_lines f plan) k
    unfolding judged_of
    plan_judge_first k p =
        number_is_first (λ x. x.number) (refusal (set_in f (plan - 1))) (refusal_number (set_in f (plan - 1))) (judge_lines f plan) said (judge_numbered f plan) k p

    pub plan_judge_outs : (a b : ℕ)
        → (out_of (judged_of f plan) first_of a ≡ after (judge_lines f plan) (first_of said) a)
        × (out_of (judged_of f plan) wrong_of b ≡ after (judge_lines f plan) (wrong_of said) b)
    unfolding judged_of
    plan_judge_outs a b = (
      out_is_after (refusal (set_in f (plan - 1))) (judge_lines f plan) said first_of a,
      out_is_after (refusal (set_in f (plan - 1))) (judge_lines f plan) said wrong_of b,
    )

module _ (l : List ℕ) where
  pub plan_length_zero : (number_of (length_of l) ≡ 0) ↔ (length_of l ≡ done (file_length (sets_in l)))
  unfolding length_of
  plan_length_zero =
      zero_is_done (λ x. x.number) (refusal (bad_of (sets_in l))) (refusal_number (bad_of (sets_in l))) (length_lines l) (file_length (sets_in l)) (length_numbered l)

  pub plan_length_first : (k : ℕ) → k ≢ 0 → (number_of (length_of l) ≡ k) ↔ First (length_lines l) k
  unfolding length_of
  plan_length_first k p =
      number_is_first (λ x. x.number) (refusal (bad_of (sets_in l))) (refusal_number (bad_of (sets_in l))) (length_lines l) (file_length (sets_in l)) (length_numbered l) k p

  pub plan_length_out : (old : ℕ) → out_of (length_of l) (λ (b : ℕ). b) old ≡ after (length_lines l) (file_length (sets_in l)) old
  unfolding length_of
  plan_length_out old = out_is_after (refusal (bad_of (sets_in l))) (length_lines l) (file_length (sets_in l)) (λ (b : ℕ). b) old

  pub plan_write_zero : (room : ℕ) → (number_of (written_of l room) ≡ 0) ↔ (written_of l room ≡ done tt)
  unfolding written_of
  plan_write_zero room =
      zero_is_done (λ x. x.number) (refusal (bad_of (sets_in l))) (refusal_number (bad_of (sets_in l))) (write_lines l room) tt (write_numbered l room)

  pub plan_write_first : (room k : ℕ) → k ≢ 0 → (number_of (written_of l room) ≡ k) ↔ First (write_lines l room) k
  unfolding written_of
  plan_write_first room k p =
      number_is_first (λ x. x.number) (refusal (bad_of (sets_in l))) (refusal_number (bad_of (sets_in l))) (write_lines l room) tt (write_numbered l room) k p
