-- The file of given sets, byte by byte, its length, and the test of the sets. These are definitions.
use Rattle.std.specs.Prelude.{ℕ, ◌+◌, ◌*◌, ◌/◌, List, [], ◌∷◌, ◌++◌, length, get_or}
use Rattle.laws.specs.Members.{chained}
use Rattle.laws.specs.Outcome.{Outcome, Line, first, settle, judged}
use Rattle.laws.specs.Run.{run}
use Rattle.big_end.specs.Numbers.{number_bytes, pair_bytes}
use Rattle.sets.specs.declared.Set.{Set}
use Rattle.sets.specs.declared.Refusal.{Refusal}
use Rattle.sets.specs.Verdict.{refusal}
use Rattle.pieces.specs.Pieces.{list_of}
use Rattle.plan_form.specs.Form.{entry_place, set_of}
use Rattle.plan_form.specs.Planned.{planned_lines}

-- the sets that a slice of numbers gives, three numbers a set: profile, bits, N
unfoldable pub set_at : List ℕ → ℕ → Set
set_at l i = set_of (get_or l (3 * i) 0) (get_or l (3 * i + 1) 0) (get_or l (3 * i + 2) 0)

abbrev pub sets_in : List ℕ → List Set
sets_in l = run (set_at l) 0 (length l / 3)

-- the five numbers of a plan whose list begins at a place
unfoldable pub entry_bytes : Set → ℕ → List ℕ
entry_bytes s at = number_bytes s.profile ++ (number_bytes s.bits ++ (number_bytes s.n ++ (number_bytes at ++ number_bytes s.n)))

-- those of all plans, whose lists follow each other
unfoldable pub entries_bytes : List Set → ℕ → List ℕ
entries_bytes [] at = []
entries_bytes (s ∷ ss) at = entry_bytes s at ++ entries_bytes ss (at + 2 * s.n)

-- a list of addresses
unfoldable pub list_bytes : List ℕ → List ℕ
list_bytes l = chained pair_bytes l

-- L of each set
unfoldable pub lists_bytes : List Set → List ℕ
lists_bytes ss = chained (λ s. list_bytes (list_of s)) ss

-- the file of some sets: how many they are, their headers, their lists
unfoldable pub file_of : List Set → List ℕ
file_of ss = number_bytes (length ss) ++ (entries_bytes ss (entry_place (length ss)) ++ lists_bytes ss)

-- how many addresses they have, and the file's length
abbrev pub total_of : List Set → ℕ
total_of [] = 0
total_of (s ∷ ss) = s.n + total_of ss

unfoldable pub file_length : List Set → ℕ
file_length ss = entry_place (length ss) + 2 * total_of ss

-- the lines of all sets, in their order, and the first set that is refused
abbrev pub all_lines : List Set → List Line
all_lines = chained planned_lines

unfoldable pub bad_of : List Set → Set
bad_of [] = set_of 0 0 0
bad_of (s ∷ ss) = settle (first (planned_lines s)) (λ k. s) (bad_of ss)

-- what testing sets says, after so many bytes
unfoldable pub measured_of : List Set → ℕ → Outcome Refusal ℕ
measured_of ss bytes = judged (refusal (bad_of ss)) (all_lines ss) (bytes + 2 * total_of ss)
