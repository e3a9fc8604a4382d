-- A profile whose sizes are one row, with bits 1 and one stream, as profiles 5, 8 and 9 are: a set of it is accepted exactly when N stands in the row, bits and
-- stream are 1, and no sentence of what it must have beside them holds. Rests on Admits, and on Counted of profiles.
-- Here stand the definitions; what is said of them is proved in proofs/OneRow.antt.
use Rattle.std.specs.Prelude.{◌≡◌, ℕ, ◌≤◌}
use mathlib.Core.List.{List, [], ◌∷◌}
use Rattle.profiles.specs.declared.Bits.TheVariants.{One}
use Rattle.profiles.specs.Entry.{row}
use Rattle.profiles.specs.Profiles.{last_profile, entry_by, numbers_by, admitted_by}

-- the entry of a number has one row, ns, with bits 1, and one stream
pub record OneRow (p : ℕ) (ns : List ℕ) : Type 0 where
  pub first : 1 ≤ p
  pub last : p ≤ last_profile
  pub rows : (entry_by p).rows ≡ row 1 ns ∷ []
  pub bits : (admitted_by p).bits ≡ One
  pub streams : (numbers_by p).streams ≡ 1
