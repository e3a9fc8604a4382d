-- The refusals of the calls on plan files in the sentences of change request 9, in its order: 12, 4, 1, then the set's own, for a plan that is judged; 12, the
-- first bad set's own, 12, 6 for a file that is written; 12 for a count, and for either file of two. A number is said exactly when its sentence is the first
-- that holds.
use Rattle.std.specs.Prelude.{ℕ, ◌-◌, ◌/◌, ◌%◌, true, false, List, [], ◌∷◌, ◌++◌, ◌↔◌, ◌≡◌, eqb, length}
use Rattle.std.proofs.Common.{sym, ap, ◌∙◌, eqb-true}
use Rattle.std.proofs.lemmas.Bool.{eqb-false}
use Rattle.laws.specs.Outcome.{refused, Clear, Line, line, stopped, first, judged, refused_first, stopped_first}
use Rattle.laws.specs.Sentences.{Sentence, sentence, FirstTrue, Told, none, more, told_differ, told_past, said_exactly, kept_alone}
use Rattle.laws.specs.Told.{told_unless, told_join}
use Rattle.laws.specs.Unsaid.{among, not_in_front, not_behind}
use Rattle.sets.specs.declared.Set.{Set}
use Rattle.sets.specs.Verdict.{refusal}
use Rattle.sets.proofs.Refusals.{set_told, refusals_apart}
use Rattle.pieces.specs.Pieces.{list_of}
use Rattle.plan_form.specs.Form.{plans_in, set_in, set_of, list_in, formed, file_line}
use Rattle.plan_form.specs.Gapless.{formed_exactly}
use Rattle.plan_form.specs.Planned.{planned_lines}
use Rattle.plan_writer.specs.File.{sets_in, file_of, file_length, all_lines, bad_of}
use Rattle.plan_writer.specs.Bad.{FirstBad, first_bad}
use Rattle.plan_differ.specs.Differences.{differ_from, next_of}
use Rattle.plans.specs.Judging.{compared, judge_lines, judged_of, counted_of}
use Rattle.plans.specs.Writing.{count_lines, size_lines, room_lines, length_lines, write_lines, length_of, written_of, buffer_of}
use Rattle.plans.specs.Differing.{files_lines, differed_of}
use Rattle.plans.specs.Refusals.{file_sentence, planned_sentences, all_sentences, judge_sentences, length_sentences, write_sentences, files_sentences}

file_told : {C : Type 0} (f : List ℕ) {ls : List Line} {ps : List Sentence} → Told (C × (formed f ≡ true)) ls ps → Told C (file_line f ∷ ls) (file_sentence f ∷ ps)
file_told f t = told_unless 12 (λ c. (formed_exactly f).0) (λ c. (formed_exactly f).1) t

planned_told : {C : Type 0} (s : Set) → Told C (planned_lines s) (planned_sentences s)
planned_told s = told_past 1 5 s.profile (set_told s)

all_told : {C : Type 0} (ss : List Set) → Told C (all_lines ss) (all_sentences ss)
all_told [] = none
all_told {C = C} (s ∷ ss) = told_join (planned_told s) (all_told {C = C × Clear (planned_lines s)} ss)

told_zero : {C : Type 0} {ls : List Line} {ps : List Sentence} (k a : ℕ) → Told (C × (eqb a 0 ≡ false)) ls ps → Told C (line k (eqb a 0) ∷ ls) (sentence k (a ≡ 0) ∷ ps)
told_zero k a t = more {p = a ≡ 0} (λ c e. eqb-true a 0 e) (λ c e n. eqb-false a 0 e n) t

judge_told : (f : List ℕ) (plan : ℕ) → Told (Unit {0}) (judge_lines f plan) (judge_sentences f plan)
unfolding judge_lines
judge_told f plan = file_told f (told_zero 4 plan (told_past 4 (plans_in f) plan (planned_told (set_in f (plan - 1)))))

length_told : (l : List ℕ) → Told (Unit {0}) (length_lines l) (length_sentences l)
unfolding length_lines
length_told l =
    told_join (told_differ 12 (length l % 3) 0 (told_past 12 (length l / 3) 1 (told_past 12 16 (length l / 3) none)))
    (told_join (all_told (sets_in l)) (told_past 12 65536 (file_length (sets_in l)) none))

write_told : (l : List ℕ) (room : ℕ) → Told (Unit {0}) (write_lines l room) (write_sentences l room)
unfolding write_lines
write_told l room = told_join (length_told l) (told_differ 6 room (file_length (sets_in l)) none)

files_told : (f g : List ℕ) → Told (Unit {0}) (files_lines f g) (files_sentences f g)
files_told f g = file_told f (file_told g none)

-- a number is said exactly when its sentence holds and none before it does
pub refusal_order_count : (f : List ℕ) (k : ℕ) → (counted_of f ≡ refused (refusal (set_of 0 0 0) k)) ↔ FirstTrue (file_sentence f ∷ []) k
unfolding counted_of
refusal_order_count f k =
    said_exactly (file_told {C = Unit {0}} f none) tt (refusal (set_of 0 0 0)) (refusals_apart (set_of 0 0 0)) (plans_in f) k

pub refusal_order_judge : (f : List ℕ) (plan k : ℕ) → (judged_of f plan ≡ refused (refusal (set_in f (plan - 1)) k)) ↔ FirstTrue (judge_sentences f plan) k
unfolding judged_of
refusal_order_judge f plan k =
    said_exactly (judge_told f plan) tt (refusal (set_in f (plan - 1))) (refusals_apart (set_in f (plan - 1)))
    (compared (list_in f (plan - 1)) (list_of (set_in f (plan - 1)))) k

pub refusal_order_length : (l : List ℕ) (k : ℕ) → (length_of l ≡ refused (refusal (bad_of (sets_in l)) k)) ↔ FirstTrue (length_sentences l) k
unfolding length_of
refusal_order_length l k =
    said_exactly (length_told l) tt (refusal (bad_of (sets_in l))) (refusals_apart (bad_of (sets_in l))) (file_length (sets_in l)) k

pub refusal_order_write : (l : List ℕ) (room k : ℕ) → (written_of l room ≡ refused (refusal (bad_of (sets_in l)) k)) ↔ FirstTrue (write_sentences l room) k
unfolding written_of
refusal_order_write l room k = said_exactly (write_told l room) tt (refusal (bad_of (sets_in l))) (refusals_apart (bad_of (sets_in l))) tt k

pub refusal_order_differ : (f g : List ℕ) (plan position k : ℕ)
    → (differed_of f g plan position ≡ refused (refusal (set_of 0 0 0) k)) ↔ FirstTrue (files_sentences f g) k
unfolding differed_of
refusal_order_differ f g plan position k =
    said_exactly (files_told f g) tt (refusal (set_of 0 0 0)) (refusals_apart (set_of 0 0 0)) (next_of (differ_from f g (plan - 1) position)) k

-- and then the buffer is what it was
pub buffer_kept : (l old : List ℕ) (k : ℕ) → FirstTrue (write_sentences l (length old)) k → buffer_of l old ≡ old
unfolding buffer_of
buffer_kept l old k h = kept_alone (write_told l (length old)) tt (file_of (sets_in l)) old k h

-- the line that a refusal is of
its_line : {R A : Type 0} (give : ℕ → R) → ((j k : ℕ) → give j ≡ give k → j ≡ k) → (ls : List Line) (a : A) (k : ℕ)
    → judged give ls a ≡ refused (give k) → first ls ≡ stopped k
its_line give apart ls a k e =
    let g = refused_first give a ls (give k) e in
    stopped_first ls g.number g.its_line ∙ ap stopped (sym (apart k g.number g.refusal_is))

-- a refusal of the writer that is neither 12 nor 6 is of the first set that is refused, and has its number
module _ (l : List ℕ) (k : ℕ) (not-12 : eqb 12 k ≡ false) where
  from_sets : first (length_lines l) ≡ stopped k → FirstBad (sets_in l) (bad_of (sets_in l)) k
  unfolding length_lines among
  from_sets e =
      first_bad (sets_in l) k
      (not_behind k (all_lines (sets_in l)) (size_lines l) (rw not-12)
      (not_in_front k (count_lines l) (all_lines (sets_in l) ++ size_lines l) (rw not-12) e))

  pub length_of_bad : length_of l ≡ refused (refusal (bad_of (sets_in l)) k) → FirstBad (sets_in l) (bad_of (sets_in l)) k
  unfolding length_of
  length_of_bad e = from_sets (its_line (refusal (bad_of (sets_in l))) (refusals_apart (bad_of (sets_in l))) (length_lines l) (file_length (sets_in l)) k e)

  pub write_of_bad : (room : ℕ) → eqb 6 k ≡ false → written_of l room ≡ refused (refusal (bad_of (sets_in l)) k) → FirstBad (sets_in l) (bad_of (sets_in l)) k
  unfolding written_of write_lines among
  write_of_bad room n e =
      from_sets (not_behind k (length_lines l) (room_lines l room) (rw n)
      (its_line (refusal (bad_of (sets_in l))) (refusals_apart (bad_of (sets_in l))) (write_lines l room) tt k e))
