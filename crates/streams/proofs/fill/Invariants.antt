-- The invariant: the first bytes, up to the loop's own, are f, and the others as they were.
use Rattle.std.specs.Prelude.{◌≡◌, ◌++◌, length, replicate, drop}
use Rattle.streams.proofs.fill.Given as goal

abbrev pub invariant-loop-byte : goal.invariant-loop-byte
invariant-loop-byte l = l.store ≡ replicate l.byte-index l.f ++ drop l.byte-index l.initial.store
