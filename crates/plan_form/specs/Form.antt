-- The form of a plan file: the number of plans, 1 to 16; for each plan profile, bits, N, offset, count; then the lists of addresses, each where the one
-- before it ends, the first where the header ends and the last to the file's end. At most 65,536 bytes. A file is its list of bytes. These are
-- definitions; plans are counted from 0.
use Rattle.std.specs.Prelude.{ℕ, zero, suc, ◌+◌, ◌*◌, Bool, not, ◌&&◌, List, eqb, leb, length}
use Rattle.laws.specs.Outcome.{Line, line}
use Rattle.laws.specs.Run.{run}
use Rattle.big_end.specs.Numbers.{number_at, pair_at}
use Rattle.sets.specs.declared.Set.{Set}
use Rattle.sets.specs.Set.{no_factors}

-- how many plans the header says
abbrev pub plans_in : List ℕ → ℕ
plans_in f = number_at f 0

-- where the five numbers of a plan begin, and where the header of so many plans ends
abbrev pub entry_place : ℕ → ℕ
entry_place i = 4 + 20 * i

-- the set of a profile, bits and N: its stream is 1, and it has no factors
abbrev pub set_of : ℕ → ℕ → ℕ → Set
set_of profile bits n = record { profile = profile; bits = bits; n = n; stream = 1; factors = no_factors }

-- a plan's parameter set
unfoldable pub set_in : List ℕ → ℕ → Set
set_in f i = set_of (number_at f (entry_place i)) (number_at f (entry_place i + 4)) (number_at f (entry_place i + 8))

-- where its list begins, and how many addresses it has
abbrev pub offset_in : List ℕ → ℕ → ℕ
offset_in f i = number_at f (entry_place i + 12)

abbrev pub count_in : List ℕ → ℕ → ℕ
count_in f i = number_at f (entry_place i + 16)

-- the addresses from a place on, so many of them
unfoldable pub addresses_at : List ℕ → ℕ → ℕ → List ℕ
addresses_at f at count = run (λ t. pair_at f (at + 2 * t)) 0 count

-- its list of addresses
abbrev pub list_in : List ℕ → ℕ → List ℕ
list_in f i = addresses_at f (offset_in f i) (count_in f i)

-- k plans from plan i on: each list begins where the one before it ended, `at` for the first, and the last ends with the file
unfoldable pub lists_meet : List ℕ → ℕ → ℕ → ℕ → Bool
lists_meet f zero i at = eqb at (length f)
lists_meet f (suc k) i at = eqb (offset_in f i) at && lists_meet f k (suc i) (at + 2 * count_in f i)

-- the form of a file
unfoldable pub formed : List ℕ → Bool
formed f =
    leb (length f) 65536
    && (leb 4 (length f)
    && (leb 1 (plans_in f)
    && (leb (plans_in f) 16
    && (leb (entry_place (plans_in f)) (length f)
    && lists_meet f (plans_in f) 0 (entry_place (plans_in f))))))

-- 12: the file is not of the form
abbrev pub file_line : List ℕ → Line
file_line f = line 12 (not (formed f))
