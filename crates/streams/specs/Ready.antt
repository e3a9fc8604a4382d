-- A machine that is ready stays ready: the next call is refused only where its lengths differ. And where the record of a started machine stands
-- after so many bytes. Over bytes of any type.
-- Here stand the definitions; what is said of them is proved in proofs/Ready.antt.
use Rattle.std.specs.Prelude.{ℕ, suc, ◌-◌, ◌*◌, ◌/◌, ◌%◌, ◌≤◌, ◌<◌, true, ◌≡◌, List, length, get_or}
use Rattle.laws.specs.declared.Way.{Way}
use Rattle.delay.specs.Machine.{branch_of}
use Rattle.delay.specs.Lane.{count_of}
use Rattle.kinds.specs.declared.Stream.{Stream}
use Rattle.kinds.specs.Kinds.{known, sizes_of, in_range}

-- a record and a store that a feed takes
pub record Ready {A : Type 0} (s : Stream) (store : List A) : Type 0 where
  pub kind : known s.kind ≡ true
  pub full : length store ≡ (sizes_of s.kind).store
  pub range : in_range s ≡ true
  pub long : length s.places ≡ 51

-- the record of kind k when n bytes have passed since a start: the branch is n mod branches; the place of ring x is the number of its bytes that have
-- passed, modulo step·x, which is one for each whole turn, and one more where its branch is among the bytes behind them
pub record Stood (way : Way) (k n : ℕ) (s : Stream) : Type 0 where
  pub kind : s.kind ≡ k
  pub branch : s.branch ≡ n % (sizes_of k).branches
  pub long : length s.places ≡ 51
  pub places : (x : ℕ) → 0 < x → x < (sizes_of k).branches
      → get_or s.places (x - 1) 0 ≡ count_of (n / (sizes_of k).branches) (n % (sizes_of k).branches) (branch_of way (sizes_of k).branches x) % ((sizes_of k).step * x)
  pub lacks : (j : ℕ) → j < 51 → (sizes_of k).branches ≤ suc j → get_or s.places j 0 ≡ 0
