-- The refusals of the calls on plan files in the sentences of change request 9, in its order: 12, 4, 1, then the set's own, for a plan that is judged; 12, the
-- first bad set's own, 12, 6 for a file that is written; 12 for a count, and for either file of two. A number is said exactly when its sentence is the first
-- that holds.
-- Here stand the definitions; what is said of them is proved in proofs/Refusals.antt.
use Rattle.std.specs.Prelude.{ℕ, ◌-◌, ◌/◌, ◌%◌, ◌<◌, List, [], ◌∷◌, ◌++◌, ◌≢◌, ◌≡◌, length}
use Rattle.laws.specs.Sentences.{Sentence, sentence}
use Rattle.sets.specs.declared.Set.{Set}
use Rattle.sets.specs.Refusals.{set_sentences}
use Rattle.plan_form.specs.Form.{plans_in, set_in}
use Rattle.plan_form.specs.Gapless.{PlanFile}
use Rattle.plan_writer.specs.File.{sets_in, file_length}

-- 12: the file is no plan file
abbrev pub file_sentence : List ℕ → Sentence
file_sentence f = sentence 12 (PlanFile f → ⊥)

-- 1: plan files know profiles up to 5 only; then the set's own, of which 1 is for a profile below 1
abbrev pub planned_sentences : Set → List Sentence
planned_sentences s = sentence 1 (5 < s.profile) ∷ set_sentences s

abbrev pub all_sentences : List Set → List Sentence
all_sentences [] = []
all_sentences (s ∷ ss) = planned_sentences s ++ all_sentences ss

-- 4: there is no plan 0, and none past the last
abbrev pub judge_sentences : List ℕ → ℕ → List Sentence
judge_sentences f plan =
    file_sentence f ∷ sentence 4 (plan ≡ 0) ∷ sentence 4 (plans_in f < plan) ∷ planned_sentences (set_in f (plan - 1))

-- 12: not three numbers a set, or not 1 to 16 sets; each set's own, in their order; 12: the file would be above 65,536 bytes
abbrev pub length_sentences : List ℕ → List Sentence
length_sentences l =
    (sentence 12 (length l % 3 ≢ 0) ∷ sentence 12 (length l / 3 < 1) ∷ sentence 12 (16 < length l / 3) ∷ [])
    ++ (all_sentences (sets_in l) ++ (sentence 12 (65536 < file_length (sets_in l)) ∷ []))

-- 6: the buffer is not of the file's length
abbrev pub write_sentences : List ℕ → ℕ → List Sentence
write_sentences l room = length_sentences l ++ (sentence 6 (room ≢ file_length (sets_in l)) ∷ [])

abbrev pub files_sentences : List ℕ → List ℕ → List Sentence
files_sentences f g = file_sentence f ∷ file_sentence g ∷ []
