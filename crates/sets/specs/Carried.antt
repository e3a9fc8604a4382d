-- What an accepted set is, by its family (specs/Fit.antt), its stream, its factors and its size.
-- Here stand the definitions; what is said of them is proved in proofs/Carried.antt.
use Rattle.std.specs.Prelude.{◌≡◌, true, ◌%◌, ◌≤◌, ◌<◌}
use Rattle.quadratic.specs.Formula.{all_apart}
use Rattle.couples.specs.Formula as couple
use Rattle.couples.specs.Test.{Numbered}
use Rattle.sets.specs.declared.Set.{Set}
use Rattle.sets.specs.Set.{f1, f2, couples_of}

-- a block of the quadratic interleaver: small enough, two numbers in their range, and no address shared
pub record Squared (s : Set) : Type 0 where
  pub size : 0 < s.n
  pub small : s.n ≤ 6144
  pub first_in : f1 s < s.n
  pub second_in : f2 s < s.n
  pub apart : all_apart s.n (f1 s) (f2 s) ≡ true

-- a block of couples: small enough, four numbers in their range, N a multiple of 4, and no couple shared
pub record Paired (s : Set) : Type 0 where
  pub most : s.n ≤ 2400
  pub numbered : Numbered (couples_of s)
  pub four : s.n % 4 ≡ 0
  pub apart : couple.all_apart (couples_of s) ≡ true
