-- The ring of a branch, by the way.
use native.Mathlib.Omega.{arith}
use Rattle.kinds.proofs.sizes.Sizes.ring.Goals as goal

pub returns-in-Deinterleaver : goal.returns-in-Deinterleaver
returns-in-Deinterleaver c = let z = c.of.ensures in (rw (c.in-Deinterleaver.is, z.branches), omega (arith, z.branches))
