-- The refusals of the calls on a set in the sentences of document 01, of request 4 for 16 and of requests 6 and 12 for 11 and 10, in their order, and without 8, by
-- request 7: 1, 2, 3, 16, 11, 10, 4, 9. A number is said exactly when its sentence is the first that holds, and then the slice is what it was.
-- Here stand the definitions; what is said of them is proved in proofs/Refusals.antt.
use Rattle.std.specs.Prelude.{ℕ, ◌≤◌, ◌<◌, List, [], ◌∷◌, ◌++◌, ◌⊎◌, ◌≡◌}
use Rattle.laws.specs.declared.Way.{Way}
use Rattle.laws.specs.declared.Way.TheVariants.{Deinterleaver}
use Rattle.laws.specs.Sentences.{Sentence, sentence}
use Rattle.sets.specs.declared.Set.{Set}
use Rattle.sets.specs.Refusals.{set_sentences}
use Rattle.walks.specs.declared.Walk.{Walk}
use Rattle.families.specs.Rules.{rule_in}

-- the profiles whose M is not walked
abbrev pub NotWalked : Set → Type 0
NotWalked s = (s.profile ≡ 5) ⊎ ((s.profile ≡ 8) ⊎ (s.profile ≡ 9))

-- a walk. 1, also: the profile is 5, 8 or 9 and the call is the walk for M; 9: its cell is past the total
abbrev pub walk_sentences : Way → Walk → List Sentence
walk_sentences way w =
    sentence 1 (NotWalked w.set × (way ≡ Deinterleaver))
    ∷ (set_sentences w.set ++ (sentence 9 ((rule_in way w.set).total < w.cell) ∷ []))

-- one address. 4: a single position is N or more
abbrev pub one_sentences : Set → ℕ → List Sentence
one_sentences s x = set_sentences s ++ (sentence 4 (s.n ≤ x) ∷ [])
