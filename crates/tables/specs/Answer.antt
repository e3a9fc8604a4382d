-- A call that moves a block of so many symbols or bytes: its lines in the order of document 01, with 16 of request 4 and 11 and 10 of requests 6 and 12 after
-- 3, and without 8, by request 7: 1, 2, 3, 16, 11, 10, 5, 6; and what it has to say. The length of a block is a number of its own: its symbols, or these times a
-- width.
use Rattle.std.specs.Prelude.{ℕ, not, List, [], ◌∷◌, ◌++◌, map, ◌≡◌, eqb, length}
use Rattle.std.proofs.Common.{ap₂}
use Rattle.std.proofs.lemmas.List.{length-map}
use Rattle.laws.specs.Outcome.{Outcome, Line, line, judged}
use Rattle.sets.specs.declared.Set.{Set}
use Rattle.sets.specs.declared.Refusal.{Refusal}
use Rattle.sets.specs.Verdict.{set_lines, refusal}

-- 5: input length isn't the block's; 6: output length isn't
abbrev pub length_lines : ℕ → ℕ → ℕ → List Line
length_lines total i o = line 5 (not (eqb i total)) ∷ line 6 (not (eqb o total)) ∷ []

unfoldable pub block_lines : Set → ℕ → ℕ → ℕ → List Line
block_lines s total i o = set_lines s ++ length_lines total i o

-- what a call on a block of so many has to say, for an input and an output of these lengths
abbrev pub moved_of : Set → ℕ → ℕ → ℕ → Outcome Refusal (Unit {0})
moved_of s total i o = judged (refusal s) (block_lines s total i o) tt

-- every symbol changed by any function, it says the same
pub blind_answer : {A B : Type 0} (h : A → B) (s : Set) (src dst : List A) (total : ℕ)
    → moved_of s total (length (map h src)) (length (map h dst)) ≡ moved_of s total (length src) (length dst)
blind_answer h s src dst total = ap₂ (moved_of s total) (length-map src h) (length-map dst h)
