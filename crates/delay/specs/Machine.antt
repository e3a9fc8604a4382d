-- The branch machine, over the number of branches and the step: 12 branches and steps of 17 bytes are ETSI EN 300 744, 4.3.2; 52 and 4 are
-- ATSC A/53. It stands at a branch, with a place for each ring. Its bytes may be of any type. These are definitions.
use Rattle.std.specs.Prelude.{ℕ, zero, suc, ◌+◌, ◌-◌, ◌*◌, ◌/◌, ◌%◌, ◌<◌, cond, List, [], ◌∷◌, get_or, set, replicate, ltb}
use Rattle.laws.specs.declared.Way.{Way}
use Rattle.laws.specs.declared.Way.TheVariants.{Interleaver, Deinterleaver}

-- a machine: which of the two, its branches and its step
pub record Machine : Type 0 where
  pub way : Way
  pub branches : ℕ
  pub step : ℕ
  pub some_branches : 0 < branches
  pub some_step : 0 < step

abbrev pub machine : (branches step : ℕ) → 0 < branches → 0 < step → Way → Machine
machine branches step hb hs way = record { way = way; branches = branches; step = step; some_branches = hb; some_step = hs }

-- where it stands: the branch of its next byte, and the place of each ring, in rising ring size
pub record Stand : Type 0 where
  pub branch : ℕ
  pub places : List ℕ

-- branch j is a queue of step·x bytes: x is j in the interleaver, and branches - 1 - j in the deinterleaver
abbrev pub ring_of : Way → ℕ → ℕ → ℕ
ring_of Interleaver branches j = j
ring_of Deinterleaver branches j = branches - 1 - j

-- the branch that has ring x, which is counted alike: from the same end, or from the other (`there_and_back`, Slots.antt)
abbrev pub branch_of : Way → ℕ → ℕ → ℕ
branch_of way branches x = ring_of way branches x

-- the queue of step·x bytes is a ring in the store, at offset step·x·(x - 1)/2
unfoldable pub offset : ℕ → ℕ → ℕ
offset step x = step * x * (x - 1) / 2

-- where a byte goes: through, or to a place of the store
pub data Slot : Type 0 where
  through : Slot
  place : ℕ → Slot

-- place n of the ring of step·x bytes; with x = 0 a byte passes through
abbrev pub slot_in : ℕ → ℕ → ℕ → Slot
slot_in step zero n = through
slot_in step (suc x) n = place (offset step (suc x) + n)

-- the place of ring x
abbrev pub place_of : Stand → ℕ → ℕ
place_of R x = get_or R.places (x - 1) 0

-- the places when a byte of ring x has passed
abbrev pub stepped : ℕ → ℕ → List ℕ → List ℕ
stepped step zero places = places
stepped step (suc x) places = set places x ((get_or places x 0 + 1) % (step * suc x))

module _ (M : Machine) where
  -- the ring of the next byte, its slot, and where the machine stands after it
  abbrev pub ring_now : Stand → ℕ
  ring_now R = ring_of M.way M.branches R.branch

  unfoldable pub slot_of : Stand → Slot
  slot_of R = slot_in M.step (ring_now R) (place_of R (ring_now R))

  unfoldable pub next_of : Stand → Stand
  next_of R = record { branch = (R.branch + 1) % M.branches; places = stepped M.step (ring_now R) R.places }

-- at its start: branch 0, and each of n places 0
unfoldable pub start_stand : ℕ → Stand
start_stand n = record { branch = 0; places = replicate n 0 }

module _ {A : Type 0} where
  -- the old byte goes out (a store of the machine's length lacks none: where one does, b itself stands in) ..
  abbrev pub gives : Slot → List A → A → A
  gives through store b = b
  gives (place i) store b = get_or store i b

  -- .. and the new one takes its slot
  abbrev pub keeps : Slot → List A → A → List A
  keeps through store b = store
  keeps (place i) store b = set store i b

-- a run over the bytes of a list, one after the other: what comes out, the store after it, the record after it
module _ {A R : Type 0} (slot : R → Slot) (next : R → R) where
  unfoldable pub run_output : R → List A → List A → List A
  run_output r store [] = []
  run_output r store (b ∷ bs) = gives (slot r) store b ∷ run_output (next r) (keeps (slot r) store b) bs

  unfoldable pub run_store : R → List A → List A → List A
  run_store r store [] = store
  run_store r store (b ∷ bs) = run_store (next r) (keeps (slot r) store b) bs

module _ {A R : Type 0} (next : R → R) where
  unfoldable pub run_record : R → List A → R
  run_record r [] = r
  run_record r (b ∷ bs) = run_record (next r) bs

-- channel byte a comes out of a started deinterleaver at this place
unfoldable pub comes_at : ℕ → ℕ → ℕ → ℕ
comes_at branches step a = a + branches * step * (branches - 1 - a % branches)

-- two different bytes that are fewer places apart than there are branches come out at least this many places apart
unfoldable pub spread_of : ℕ → ℕ → ℕ
spread_of branches step = branches * step - 1

-- entry t of a stream that comes d late, behind f
unfoldable pub late : {A : Type 0} → A → ℕ → (ℕ → A) → ℕ → A
late f d input t = cond (ltb t d) f (input (t - d))
