-- Condition 3, for both kinds at once: calls cut anywhere are one run; what comes out of a started machine, and of the two one behind the other.
-- Over bytes of any type, and with no bound on how many.
-- Here stand the definitions; what is said of them is proved in proofs/Condition3.antt.
use Rattle.std.specs.Prelude.{◌≡◌, List}
use Rattle.laws.specs.declared.Way.{Way}
use Rattle.kinds.specs.declared.Stream.{Stream}
use Rattle.streams.specs.Fed.{fed_output, fed_store, fed_record}

-- one run over xs: its output, its record, its store
pub record OneRun {A : Type 0} (way : Way) (s : Stream) (store xs ys : List A) (s' : Stream) (store' : List A) : Type 0 where
  pub output : ys ≡ fed_output way s store xs
  pub next : s' ≡ fed_record way s xs
  pub stored : store' ≡ fed_store way s store xs
