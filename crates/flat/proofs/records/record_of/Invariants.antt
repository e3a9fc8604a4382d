-- `flat::records::record_of` reads the numbers. The invariant: the first i places are those that are lent.
use Prim.Native.Nat.{◌+◌}
use lib.ListN.{get_or, replicate}
use Rattle.laws.specs.Fill.{Filled}
use Rattle.flat.proofs.records.record_of.Given as goal

abbrev pub invariant-loop-i : goal.invariant-loop-i
invariant-loop-i l = Filled (λ k. get_or l.stream (k + 2) 0) 0 (replicate 51 0) l.places l.i
