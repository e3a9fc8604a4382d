-- The refusals of a set in the sentences of document 01, 1, 2, 3, of request 4, 16, and of requests 6 and 12, 11 and 10, in that order; and that a number is said
-- exactly when its sentence is the first that holds. Lines of other calls may stand behind.
-- Here stand the definitions; what is said of them is proved in proofs/Refusals.antt.
use Rattle.std.specs.Prelude.{ℕ, ◌≤◌}
use mathlib.Core.List.{List, [], ◌∷◌, ◌++◌, Memᴰ}
use Rattle.laws.specs.Sentences.{Sentence, sentence}
use Rattle.sets.specs.declared.Set.{Set}
use Rattle.sizes.specs.declared.Size.{Size}
use Rattle.sizes.specs.Size.{size}
use Rattle.sets.specs.Set.{size_of}
use Rattle.profiles.specs.Profiles.{last_profile}
use Rattle.sizes.specs.Tests.{listed_sizes}
use Rattle.sets.specs.Stream.{stream_sentences}
use Rattle.sets.specs.Beside.{beside_sentences}

-- the profile is 1 to 9
abbrev pub ProfileListed : Size → Type 0
ProfileListed z = (1 ≤ z.profile) × (z.profile ≤ last_profile)

-- the bits are listed for the profile: with some size
abbrev pub BitsListed : Size → Type 0
BitsListed z = (n : ℕ) × Memᴰ (size z.profile z.bits n) listed_sizes

-- N is listed for that profile and those bits
abbrev pub SizeListed : Size → Type 0
SizeListed z = Memᴰ z listed_sizes

-- 1: the profile isn't 1 to 9; 2: the bits aren't listed for the profile; 3: N isn't listed for that profile and those bits
abbrev pub size_sentences : Size → List Sentence
size_sentences z = sentence 1 (ProfileListed z → ⊥) ∷ sentence 2 (BitsListed z → ⊥) ∷ sentence 3 (SizeListed z → ⊥) ∷ []

abbrev pub set_sentences : Set → List Sentence
set_sentences s = size_sentences (size_of s) ++ (stream_sentences s ++ beside_sentences s)
