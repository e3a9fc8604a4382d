-- Which sets of profile 9 are accepted, in the words of request 12: N is a multiple of 4 from 24 to 2,400, bits and stream are 1, P0 to P3 are below N, and no two
-- outputs share a couple. The test of a set accepts exactly these. Rests on OneRow.
-- Here stand the definitions; what is said of them is proved in proofs/Wimax.antt.
use mathlib.Core.List.{Memᴰ}
use Rattle.std.specs.Prelude.{◌≡◌, ℕ, ◌<◌}
use Rattle.profiles.specs.Profiles.{couple_sizes}
use Rattle.couples.specs.Formula.{couple_l}
use Rattle.couples.specs.Test.{Below}
use Rattle.sets.specs.declared.Set.{Set}
use Rattle.sets.specs.Set.{couples_of}

-- a set of profile 9 as the request admits it
pub record Admitted (s : Set) : Type 0 where
  pub size_listed_lem : Memᴰ s.n couple_sizes
  pub bits_one : s.bits ≡ 1
  pub stream_one : s.stream ≡ 1
  pub below : Below (couples_of s)
  pub none_shared : (x y : ℕ) → x < y → y < s.n → couple_l (couples_of s) x ≡ couple_l (couples_of s) y → ⊥
