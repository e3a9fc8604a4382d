-- Exactly the sets of a listed size and stream, with what they must have beside them, are accepted: no line of the test applies to a size if and
-- only if it stands in the table that is counted out (specs/Profiles.antt of profiles), since exactly those sizes pass their tests (specs/Admits.antt of sizes).
-- Here stand the definitions; what is said of them is proved in proofs/Admits.antt.
use Rattle.std.specs.Prelude.{◌≡◌, true}
use mathlib.Core.List.{Memᴰ}
use Rattle.laws.specs.Outcome.{done, Clear}
use Rattle.laws.specs.Told.{NoneTrue}
use Rattle.sets.specs.declared.Set.{Set}
use Rattle.sets.specs.Set.{size_of}
use Rattle.sizes.specs.Tests.{listed_sizes}
use Rattle.sets.specs.Stream.{stream_listed, stream_lines}
use Rattle.sets.specs.Beside.{beside_lines, beside_sentences}
use Rattle.sets.specs.Verdict.{size_lines, verdict_of}

-- the test of a set accepts it
abbrev pub Accepted : Set → Type 0
Accepted s = verdict_of s ≡ done tt

-- so for a set: its size, its stream, and what it must have beside them
pub record Cleared (s : Set) : Type 0 where
  pub of_size : Clear (size_lines (size_of s))
  pub of_stream : Clear (stream_lines s)
  pub beside : Clear (beside_lines s)

-- a set is accepted exactly when its size is listed, its stream passes, and no sentence of what it must have beside them holds
pub record Passed (s : Set) : Type 0 where
  pub size_listed_lem : Memᴰ (size_of s) listed_sizes
  pub stream_passes : stream_listed s ≡ true
  pub beside_none : NoneTrue (beside_sentences s)
