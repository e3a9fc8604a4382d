-- `cols_of` is C, case by case.
use Prim.Native.Nat.{ℕ, ◌-◌, ◌<◌, ◌≤◌}
use mathlib.Core.Path.{◌∙◌, sym}
use native.Mathlib.Omega.{arith}
use Rattle.wcdma_shape.proofs.Cases.{cols_a, cols_b, cols_c, cols_middle}
use Rattle.wcdma_shape.specs.Post.{ColsIn}
use Rattle.wcdma_shape.specs.Shape.{prime_big, prime_small, product_small, rows_le}
use Rattle.wcdma_shape.proofs.cols_of.Goals as goal

-- the bounds of r and p
bounds : {k r p : ℕ} → ColsIn k r p → (r ≤ 20) × (6 < p) × (p < 258)
bounds {k} s = (omega (arith, rows_le k, s.rows_is), omega (arith, prime_big k, s.prime_is), omega (arith, prime_small k, s.prime_is))

pub returns-then-own : goal.returns-then-own
returns-then-own c = sym (cols_middle _ c.requires.prime_is (sym c.is_within-own.ensures ∙ c.if-own.true))

pub overflow_sub-p : goal.overflow_sub-p
overflow_sub-p c = omega (arith, bounds c.requires)

pub overflow_mul-r : goal.overflow_mul-r
overflow_mul-r c = let b = bounds c.requires in omega (arith, product_small b.0 (let h : c.args.p - 1 ≤ 258 = omega arith in h))

pub returns-then-k-r : goal.returns-then-k-r
returns-then-k-r c = sym (cols_a _ c.requires (sym c.is_within-own.ensures ∙ c.if-own.false) c.if-k-r.true)

pub returns-then-k-r-2 : goal.returns-then-k-r-2
returns-then-k-r-2 c = sym (cols_b _ c.requires (sym c.is_within-own.ensures ∙ c.if-own.false) c.if-k-r.false c.if-k-r-2.true)

pub overflow_add-result : goal.overflow_add-result
overflow_add-result c = omega (arith, bounds c.requires)

pub returns : goal.returns
returns c = sym (cols_c _ c.requires (sym c.is_within-own.ensures ∙ c.if-own.false) c.if-k-r.false c.if-k-r-2.false)
