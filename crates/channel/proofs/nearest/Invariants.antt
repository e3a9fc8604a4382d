-- The invariant: d is the least distance between any two of the first k bytes.
use Prim.Native.Nat.{◌≤◌, ◌-◌}
use Rattle.channel.specs.Nearest.{nearest_before, Gone}
use Rattle.channel.proofs.nearest.Given as goal

abbrev pub invariant-loop-k : goal.invariant-loop-k
invariant-loop-k l = Gone (nearest_before l.kind l.at) (l.k - 1) l.d × (l.k - 2 ≤ l.n - 2)
