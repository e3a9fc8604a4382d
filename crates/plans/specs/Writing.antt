-- What asking for the length of a file and writing it answer. The lines stand in the order of the checks: 12 for the number of sets, the first bad set's own,
-- 12 for the size, 6 for the buffer.
-- Here stand the definitions; what is said of them is proved in proofs/WritingLaws.antt.
use Rattle.std.specs.Prelude.{ℕ, ◌/◌, ◌%◌, ◌≤◌, not, List, [], ◌∷◌, ◌++◌, eqb, ltb, length}
use Rattle.std.proofs.Math.Path.{◌≡◌}
use Rattle.laws.specs.Outcome.{Outcome, Line, line, clear, first, judged, after}
use Rattle.sets.specs.declared.Refusal.{Refusal}
use Rattle.sets.specs.Verdict.{refusal}
use Rattle.plan_writer.specs.File.{sets_in, file_of, file_length, all_lines, bad_of}

-- 12: not three numbers a set, or not 1 to 16 sets
abbrev pub count_lines : List ℕ → List Line
count_lines l = line 12 (not (eqb (length l % 3) 0)) ∷ line 12 (ltb (length l / 3) 1) ∷ line 12 (ltb 16 (length l / 3)) ∷ []

-- 12: the file would be above 65,536 bytes
abbrev pub size_lines : List ℕ → List Line
size_lines l = line 12 (ltb 65536 (file_length (sets_in l))) ∷ []

-- 6: the buffer is not of the file's length
abbrev pub room_lines : List ℕ → ℕ → List Line
room_lines l room = line 6 (not (eqb room (file_length (sets_in l)))) ∷ []

unfoldable pub length_lines : List ℕ → List Line
length_lines l = count_lines l ++ (all_lines (sets_in l) ++ size_lines l)

unfoldable pub write_lines : List ℕ → ℕ → List Line
write_lines l room = length_lines l ++ room_lines l room

-- what asking for the length has to say, and what writing has; a refusal is the first bad set's
unfoldable pub length_of : List ℕ → Outcome Refusal ℕ
length_of l = judged (refusal (bad_of (sets_in l))) (length_lines l) (file_length (sets_in l))

unfoldable pub written_of : List ℕ → ℕ → Outcome Refusal (Unit {0})
written_of l room = judged (refusal (bad_of (sets_in l))) (write_lines l room) tt

-- the buffer after writing
unfoldable pub buffer_of : List ℕ → List ℕ → List ℕ
buffer_of l old = after (write_lines l (length old)) (file_of (sets_in l)) old

-- the sets of a file whose length is given: some, few, all good, and their file is no larger than it may be
pub record Good (l : List ℕ) (b : ℕ) : Type 0 where
  pub whole : length l % 3 ≡ 0
  pub some : 1 ≤ length l / 3
  pub few : length l / 3 ≤ 16
  pub good : first (all_lines (sets_in l)) ≡ clear
  pub long : b ≡ file_length (sets_in l)
  pub small : b ≤ 65536
