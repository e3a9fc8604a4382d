-- `powers` fills the first half of S step by step, and has the second half from it. The invariant: the powers below x stand in their places,
-- and last is the power x.
use Prim.Native.Nat.{◌-◌, ◌<◌, ℕ}
use lib.ListN.{get_or, length}
use mathlib.Core.Path.{◌≡◌}
use Rattle.wcdma_shape.specs.Powers.{power}
use Rattle.wcdma_powers.proofs.powers.Given as goal

abbrev pub invariant-loop-x : goal.invariant-loop-x
invariant-loop-x l = (length l.s ≡ 256) × (l.last < l.p) × (l.last ≡ power l.p l.v l.x) × ((y : ℕ) → y < l.x → get_or l.s y 0 ≡ power l.p l.v y - l.less)
