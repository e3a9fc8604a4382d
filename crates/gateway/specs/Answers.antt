-- What the calls on a gateway's store say, and what they leave: the lines that refuse them, in the order of the checks, and the answers in the paper's numbers and
-- values. Rests on the pattern of every call.
use Rattle.std.specs.Prelude.{ℕ, ◌+◌, not, List, [], ◌∷◌, eqb, ltb, length}
use Rattle.std.proofs.lemmas.List.Edits.{sets}
use Rattle.laws.specs.declared.Way.{Way}
use Rattle.laws.specs.Outcome.{Outcome, Line, line, judged, after}
use Rattle.kinds.specs.declared.Stream.{Stream}
use Rattle.streams.specs.Fed.{fed_output, fed_store, fed_record}
use Rattle.gateway_form.specs.Form.{record_of, way_of, stand_bytes, machines_in, entry_place, entry_in, offset_in, length_in, share_in, form_line}
use Rattle.gateway_laying.specs.Laid.{store_length, laid_out, count_line, equal_line, kind_line, direction_line}
use Rattle.gateway.specs.declared.Stretch.{Stretch}

-- ---- the form, and a vessel's share

-- 9: the store is not of the form
abbrev pub formed_of : List ℕ → Outcome ℕ (Unit {0})
formed_of f = judged (λ n. n) (form_line f ∷ []) tt

-- 9; then 4: the vessel is not in the header
abbrev pub vessel_line : List ℕ → ℕ → Line
vessel_line f v = line 4 (not (ltb v (machines_in f)))

abbrev pub vessel_lines : List ℕ → ℕ → List Line
vessel_lines f v = form_line f ∷ vessel_line f v ∷ []

abbrev pub stretch_in : List ℕ → ℕ → Stretch
stretch_in f v = record { offset = offset_in f v; long = length_in f v }

-- where the share of a vessel stands, and the share: empty where the call is refused
abbrev pub placed_of : List ℕ → ℕ → Outcome ℕ Stretch
placed_of f v = judged (λ n. n) (vessel_lines f v) (stretch_in f v)

abbrev pub share_of : List ℕ → ℕ → List ℕ
share_of f v = after (vessel_lines f v) (share_in f v) []

-- ---- laying out

-- the length of a store: 9 for a wrong number of machines or a wrong kind
abbrev pub length_lines : List ℕ → List Line
length_lines kinds = count_line kinds ∷ kind_line kinds ∷ []

abbrev pub length_of : List ℕ → Outcome ℕ ℕ
length_of kinds = judged (λ n. n) (length_lines kinds) (store_length kinds)

-- 9: a wrong number of machines, unequal lists, a wrong kind, a wrong direction; 7: the store isn't of the length
abbrev pub lay_lines : List ℕ → List ℕ → List ℕ → List ℕ → List Line
lay_lines kinds directions fills store =
    count_line kinds
    ∷ equal_line kinds directions fills
    ∷ kind_line kinds
    ∷ direction_line directions
    ∷ line 7 (not (eqb (length store) (store_length kinds)))
    ∷ []

-- what it says, and the store after it
abbrev pub laid_of : List ℕ → List ℕ → List ℕ → List ℕ → Outcome ℕ (Unit {0})
laid_of kinds directions fills store = judged (λ n. n) (lay_lines kinds directions fills store) tt

abbrev pub laid_store : List ℕ → List ℕ → List ℕ → List ℕ → List ℕ
laid_store kinds directions fills store = after (lay_lines kinds directions fills store) (laid_out kinds directions fills) store

-- ---- a feed

-- a call: the store, the vessel, its input and its output
pub record Feed : Type 0 where
  pub store : List ℕ
  pub vessel : ℕ
  pub input : List ℕ
  pub output : List ℕ

abbrev pub feed : List ℕ → ℕ → List ℕ → List ℕ → Feed
feed store vessel input output = record { store = store; vessel = vessel; input = input; output = output }

-- 9, 4; 6: the output's length isn't the input's
abbrev pub feed_lines : Feed → List Line
feed_lines c = form_line c.store ∷ vessel_line c.store c.vessel ∷ line 6 (not (eqb (length c.output) (length c.input))) ∷ []

-- the vessel's machine: which way it runs, its record and its share
abbrev pub way_in : List ℕ → ℕ → Way
way_in f v = way_of (entry_in f v)

abbrev pub record_in : List ℕ → ℕ → Stream
record_in f v = record_of (entry_in f v)

-- the store with the vessel's machine turned: its share, and in its entry the branch and the places, anew
unfoldable pub turned : Feed → List ℕ
turned c =
    let f = c.store in
    let v = c.vessel in
    sets (sets f (offset_in f v) (fed_store (way_in f v) (record_in f v) (share_in f v) c.input)) (entry_place v + 16)
    (stand_bytes (fed_record (way_in f v) (record_in f v) c.input))

unfoldable pub passed : Feed → List ℕ
passed c = let f = c.store in let v = c.vessel in fed_output (way_in f v) (record_in f v) (share_in f v) c.input

-- what it says, and what it leaves of the store and the output
abbrev pub says : Feed → Outcome ℕ (Unit {0})
says c = judged (λ n. n) (feed_lines c) tt

abbrev pub store_after : Feed → List ℕ
store_after c = after (feed_lines c) (turned c) c.store

abbrev pub output_after : Feed → List ℕ
output_after c = after (feed_lines c) (passed c) c.output
