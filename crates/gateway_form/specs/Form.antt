-- The form of a gateway's store: the number of machines, 1 to 8; for each an entry of 56 numbers, namely kind, direction, offset, length, branch and 51 ring
-- places in order of ring size; then the shares, each where the one before it ends, the first where the header ends and the last to the store's end. Numbers
-- are of 4 bytes, big end first. A store is its list of bytes, and vessels are counted from 0. These are definitions.
use Rattle.std.specs.Prelude.{ℕ, ◌+◌, ◌*◌, Bool, cond, not, ◌&&◌, ◌||◌, List, ◌++◌, eqb, leb, length}
use Rattle.laws.specs.declared.Way.{Way}
use Rattle.laws.specs.declared.Way.TheVariants.{Interleaver, Deinterleaver}
use Rattle.laws.specs.Gapless.{meet}
use Rattle.laws.specs.Members.{chained, every}
use Rattle.laws.specs.Outcome.{Line, line}
use Rattle.laws.specs.Parts.{part}
use Rattle.laws.specs.Run.{run}
use Rattle.big_end.specs.Numbers.{number_at, number_bytes}
use Rattle.kinds.specs.declared.Stream.{Stream}
use Rattle.kinds.specs.Kinds.{known, sizes_of, in_range}

-- ---- an entry, by its 224 bytes

-- its numbers, counted from 0: kind, direction, offset, length, branch ..
abbrev pub kind_of : List ℕ → ℕ
kind_of e = number_at e 0

abbrev pub direction_of : List ℕ → ℕ
direction_of e = number_at e 4

abbrev pub offset_of : List ℕ → ℕ
offset_of e = number_at e 8

abbrev pub length_of : List ℕ → ℕ
length_of e = number_at e 12

abbrev pub branch_of : List ℕ → ℕ
branch_of e = number_at e 16

-- .. and 51 places
unfoldable pub places_of : List ℕ → List ℕ
places_of e = run (λ x. number_at e (20 + 4 * x)) 0 51

-- the machine's record, and which way it runs: direction 1 interleaves, 2 is the other
abbrev pub record_of : List ℕ → Stream
record_of e = record { kind = kind_of e; branch = branch_of e; places = places_of e }

abbrev pub way_of : List ℕ → Way
way_of e = cond (eqb (direction_of e) 1) Interleaver Deinterleaver

-- directions are 1 and 2
unfoldable pub directed : ℕ → Bool
directed d = eqb d 1 || eqb d 2

-- the kind and the direction are known, the length is the kind's, branch and places lie in their ranges, those that the kind lacks being 0
unfoldable pub entry_fits : List ℕ → Bool
entry_fits e = known (kind_of e) && (directed (direction_of e) && (eqb (length_of e) (sizes_of (kind_of e)).store && in_range (record_of e)))

-- the bytes of a record's branch and places, and of a whole entry
unfoldable pub stand_bytes : Stream → List ℕ
stand_bytes s = number_bytes s.branch ++ chained number_bytes s.places

unfoldable pub entry_bytes : ℕ → ℕ → Stream → List ℕ
entry_bytes direction offset s =
    number_bytes s.kind ++ (number_bytes direction ++ (number_bytes offset ++ (number_bytes (sizes_of s.kind).store ++ stand_bytes s)))

-- ---- a store

-- how many machines the header says
abbrev pub machines_in : List ℕ → ℕ
machines_in f = number_at f 0

-- where the entry of a vessel begins, and where the header of so many machines ends
abbrev pub entry_place : ℕ → ℕ
entry_place i = 4 + 224 * i

-- a vessel's entry
unfoldable pub entry_in : List ℕ → ℕ → List ℕ
entry_in f i = part (entry_place i) 224 f

-- where its share begins, and how many bytes it has
abbrev pub offset_in : List ℕ → ℕ → ℕ
offset_in f i = offset_of (entry_in f i)

abbrev pub length_in : List ℕ → ℕ → ℕ
length_in f i = length_of (entry_in f i)

-- its share: the bytes from offset to offset + length
unfoldable pub share_in : List ℕ → ℕ → List ℕ
share_in f i = part (offset_in f i) (length_in f i) f

-- k vessels from vessel i on: each entry fits, and each share begins where the one before it ends, `at` for the first, and the last ends with the store
unfoldable pub entries_fit : List ℕ → ℕ → ℕ → ℕ → Bool
entries_fit f k i at = every entry_fits (run (entry_in f) i k) && meet (offset_in f) (length_in f) (length f) k i at

-- the form of a store
unfoldable pub formed : List ℕ → Bool
formed f =
    leb 4 (length f)
    && (leb 1 (machines_in f)
    && (leb (machines_in f) 8
    && (leb (entry_place (machines_in f)) (length f)
    && entries_fit f (machines_in f) 0 (entry_place (machines_in f)))))

-- 9: the store is not of the form
abbrev pub form_line : List ℕ → Line
form_line f = line 9 (not (formed f))
