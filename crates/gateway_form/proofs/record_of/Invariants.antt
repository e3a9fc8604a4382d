-- `gateway_form::record_of`.
use Rattle.big_end.specs.Numbers.{number_at}
use Rattle.laws.specs.Fill.{Filled}
use lib.ListN.{replicate}
use mathlib.Core.Path.{◌≡◌}
use Prim.Native.Nat.{◌+◌, ◌*◌}
use Rattle.gateway_form.proofs.record_of.Given as goal

abbrev pub invariant-loop-place : goal.invariant-loop-place
invariant-loop-place l = (l.at ≡ 20 + 4 * l.place-index) × Filled (λ k. number_at l.entry (20 + 4 * k)) 0 (replicate 51 0) l.place-items l.place-index
