-- `flat::records::numbers_of` puts the places behind kind and branch. The invariant: the first i + 2 numbers are the record's.
use Prim.Native.Nat.{◌+◌}
use mathlib.Core.List.{◌∷◌}
use lib.ListN.{get_or}
use Rattle.laws.specs.Fill.{Filled}
use Rattle.flat.proofs.records.numbers_of.Given as goal

abbrev pub invariant-loop-i : goal.invariant-loop-i
invariant-loop-i l = Filled (λ k. get_or (get_or l.initial.row 0 0 ∷ get_or l.initial.row 1 0 ∷ l.places) k 0) 0 l.initial.row l.row (l.i + 2)
