-- The store of given kinds, directions and fill bytes, just laid out: how many machines they are, their entries with every branch and place 0, their shares full of
-- their fill. Its length, and the tests of the lists. These are definitions; vessels are counted from 0.
use Rattle.std.specs.Prelude.{ℕ, zero, suc, ◌+◌, not, ◌&&◌, List, ◌++◌, eqb, leb, length, get_or}
use Rattle.laws.specs.Members.{chained, every}
use Rattle.laws.specs.Outcome.{Line, line}
use Rattle.laws.specs.Run.{run}
use Rattle.big_end.specs.Numbers.{number_bytes}
use Rattle.kinds.specs.Kinds.{known, sizes_of, start_record}
use Rattle.streams.specs.Fed.{start_store}
use Rattle.gateway_form.specs.Form.{directed, entry_place, entry_bytes}

-- where the share of a vessel begins: where the header ends, and each other where the one before it ends
unfoldable pub start_of : List ℕ → ℕ → ℕ
start_of kinds zero = entry_place (length kinds)
start_of kinds (suc i) = start_of kinds i + (sizes_of (get_or kinds i 0)).store

-- how many bytes the store has: the last share ends with it
abbrev pub store_length : List ℕ → ℕ
store_length kinds = start_of kinds (length kinds)

-- a vessel's entry, and its share
unfoldable pub laid_entry : List ℕ → List ℕ → ℕ → List ℕ
laid_entry kinds directions i = entry_bytes (get_or directions i 0) (start_of kinds i) (start_record (get_or kinds i 0))

abbrev pub laid_share : List ℕ → List ℕ → ℕ → List ℕ
laid_share kinds fills i = start_store (get_or kinds i 0) (get_or fills i 0)

-- the vessels of a list of kinds, by their numbers
abbrev pub vessels : List ℕ → List ℕ
vessels kinds = run (λ i. i) 0 (length kinds)

unfoldable pub laid_out : List ℕ → List ℕ → List ℕ → List ℕ
laid_out kinds directions fills =
    number_bytes (length kinds) ++ (chained (laid_entry kinds directions) (vessels kinds) ++ chained (laid_share kinds fills) (vessels kinds))

-- 9: a wrong number of machines; 9: unequal lists; 9: a wrong kind; 9: a wrong direction
abbrev pub count_line : List ℕ → Line
count_line kinds = line 9 (not (leb 1 (length kinds) && leb (length kinds) 8))

abbrev pub equal_line : List ℕ → List ℕ → List ℕ → Line
equal_line kinds directions fills = line 9 (not (eqb (length directions) (length kinds) && eqb (length fills) (length kinds)))

abbrev pub kind_line : List ℕ → Line
kind_line kinds = line 9 (not (every known kinds))

abbrev pub direction_line : List ℕ → Line
direction_line directions = line 9 (not (every directed directions))
