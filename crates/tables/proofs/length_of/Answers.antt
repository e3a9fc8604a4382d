-- `tables::length_of` is the length of a block: its symbols, of which there are few enough, times the width.
use Prim.Native.Nat.{ℕ, ◌*◌}
use mathlib.Core.Path.{ap}
use native.Mathlib.Nat.{mul-le-mul}
use native.Mathlib.Omega.{arith}
use Rattle.tables.proofs.length_of.Goals as goal

pub overflow_mul-result : goal.overflow_mul-result
overflow_mul-result c =
    let s = c.size_of.ensures in
    omega (
      arith,
      mul-le-mul {n₁ = c.size_of.result} {m₁ = c.args.width} {n₂ = 6144} {m₂ = 4294967295} (omega (arith, s.size, s.most)) (omega arith),
    )

pub returns : goal.returns
returns c = ap (λ (x : ℕ). x * c.args.width) c.size_of.ensures.size
