-- The listed sets: every listed size with every stream of its profile, counted out; and that exactly these are accepted, where no sentence of what
-- a set must have beside them holds.
-- Here stand the definitions; what is said of them is proved in proofs/Listed.antt.
use Rattle.std.specs.Prelude.{ℕ}
use mathlib.Core.List.{List, map}
use Rattle.laws.specs.Run.{run}
use Rattle.laws.specs.Members.{chained}
use Rattle.sizes.specs.declared.Size.{Size}
use Rattle.profiles.specs.Entry.{Entry}
use Rattle.profiles.specs.Profiles.{profiles}
use Rattle.sizes.specs.Size.{sizes_of}
use Rattle.sets.specs.declared.Set.{Set}
use Rattle.sets.specs.Set.{size_of}

-- a size with a stream, and with each of some streams
abbrev pub streamed : Size → ℕ → Size × ℕ
streamed z i = (z, i)

abbrev pub with_each : List ℕ → Size → List (Size × ℕ)
with_each is z = map (streamed z) is

-- of an entry: its sizes with its streams, from 1 on
abbrev pub sets_of : Entry → List (Size × ℕ)
sets_of q = chained (with_each (run (λ i. i) 1 q.numbers.streams)) (sizes_of q)

unfoldable pub listed_sets : List (Size × ℕ)
listed_sets = chained sets_of profiles

-- a set as it is listed
abbrev pub entry_of : Set → Size × ℕ
entry_of s = streamed (size_of s) s.stream
