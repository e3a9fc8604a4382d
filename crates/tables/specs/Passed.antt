-- What stands behind each return of judging a block, behind a block that was judged, and behind a table that was filled. Over a block of any length.
-- Here stand the definitions; what is said of them is proved in proofs/Passed.antt.
use Rattle.std.specs.Prelude.{ℕ, ◌≤◌, ◌<◌, List, ◌≡◌, length}
use Rattle.laws.specs.Loop.{by, Within}
use Rattle.sets.specs.declared.Set.{Set}
use Rattle.sets.specs.Admits.{Accepted}
use Rattle.families.specs.Symbols.{symbols_of, block_l}

-- how many symbols a block has, at most 6,144
pub record SizeOf (s : Set) (r : ℕ) : Type 0 where
  pub size : r ≡ symbols_of s
  pub most : symbols_of s ≤ 6144

-- a block that was judged, and nothing is in its way: its set is accepted, and the lengths are the block's
pub record Judged (s : Set) (total i o : ℕ) : Type 0 where
  pub accepted : Accepted s
  pub input : i ≡ total
  pub output : o ≡ total

-- a table holds the input symbol of each output symbol, and has room for them
pub record Tabled (s : Set) (table : List ℕ) : Type 0 where
  pub room : symbols_of s ≤ length table
  pub holds : (t : ℕ) → t < symbols_of s → by table t ≡ block_l s t
  pub within : Within table (symbols_of s) (symbols_of s)
