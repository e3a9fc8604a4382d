-- The refusals of a call on a block of so many, in the sentences of document 01, of request 4 for 16 and of requests 6 and 12 for 11 and 10, in their order, and
-- without 8, by request 7: 1, 2, 3, 16, 11, 10, 5, 6. A number is said exactly when its sentence is the first that holds, and then every buffer is what it was.
-- Here stand the definitions; what is said of them is proved in proofs/Refusals.antt.
use Rattle.std.specs.Prelude.{ℕ, List, [], ◌∷◌, ◌++◌, ◌≢◌}
use Rattle.laws.specs.Sentences.{Sentence, sentence}
use Rattle.sets.specs.declared.Set.{Set}
use Rattle.sets.specs.Refusals.{set_sentences}

-- 5: input length isn't the block's; 6: output length isn't
abbrev pub block_sentences : Set → ℕ → ℕ → ℕ → List Sentence
block_sentences s total i o = set_sentences s ++ (sentence 5 (i ≢ total) ∷ sentence 6 (o ≢ total) ∷ [])
