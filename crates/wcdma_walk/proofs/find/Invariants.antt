-- `find` is the first place of an address. The invariant: its place is i places after its place in the rest.
use Prim.Native.Nat.{◌+◌}
use lib.ListN.{drop}
use mathlib.Core.Path.{◌≡◌}
use Rattle.laws.specs.Position.{position}
use Rattle.wcdma_walk.proofs.find.Given as goal

abbrev pub invariant-loop-i : goal.invariant-loop-i
invariant-loop-i l = position l.a l.list ≡ l.i + position l.a (drop l.i l.list)
