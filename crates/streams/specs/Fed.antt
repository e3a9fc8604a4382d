-- What a start and a feed that are not refused give: the store of a started machine, and of a feed the output, the store and the record, byte after
-- byte. Over bytes of any type. These are definitions.
use Rattle.std.specs.Prelude.{ℕ, List, ◌≡◌, replicate}
use Rattle.laws.specs.declared.Way.{Way}
use Rattle.delay.specs.Machine.{slot_of, next_of, run_output, run_store, run_record}
use Rattle.kinds.specs.declared.Stream.{Stream}
use Rattle.kinds.specs.Kinds.{sizes_of, machine_of, stand_of, record_of}

module _ {A : Type 0} where
  -- start fills the store with f (and gives start_record)
  unfoldable pub start_store : ℕ → A → List A
  start_store k f = replicate (sizes_of k).store f

  -- a feed passes its bytes one after the other through the machine of its kind: what comes out ..
  unfoldable pub fed_output : Way → Stream → List A → List A → List A
  fed_output way s store input = let M = machine_of way s.kind in run_output (slot_of M) (next_of M) (stand_of s) store input

  -- .. the store after the last of them ..
  unfoldable pub fed_store : Way → Stream → List A → List A → List A
  fed_store way s store input = let M = machine_of way s.kind in run_store (slot_of M) (next_of M) (stand_of s) store input

  -- .. and the record
  unfoldable pub fed_record : Way → Stream → List A → Stream
  fed_record way s input = record_of s.kind (run_record (next_of (machine_of way s.kind)) (stand_of s) input)

-- what a run of the code gives
pub record Runs (way : Way) (s : Stream) (store input : List ℕ) (r : Stream) (store' out' : List ℕ) : Type 0 where
  pub next : r ≡ fed_record way s input
  pub stored : store' ≡ fed_store way s store input
  pub written : out' ≡ fed_output way s store input
