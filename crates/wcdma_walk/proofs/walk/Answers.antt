-- `walk` is the walk of the rule from any cell: 9 by its test.
use Prim.Native.Nat.{◌*◌}
use mathlib.Core.Path.{◌≡◌}
use native.Mathlib.Omega.{arith}
use Rattle.laws.specs.Leaves.{leaf_past}
use Rattle.wcdma_shape.specs.Rectangle.{cells}
use Rattle.wcdma_shape.specs.Shape.{cells_le, shape_total}
use Rattle.wcdma_walk.proofs.Setup.{went_says}
use Rattle.wcdma_walk.proofs.walk.Goals as goal

pub overflow_mul-total : goal.overflow_mul-total
overflow_mul-total c =
    let total : c.shape_of-shape.result.r * c.shape_of-shape.result.c ≡ cells c.args.k = let e = c.shape_of-shape.ensures in shape_total _ e.1 e.0 in
    omega (arith, total, cells_le c.args.k)

pub returns-then-total-cell : goal.returns-then-total-cell
returns-then-total-cell c =
    let total' : c.shape_of-shape.result.r * c.shape_of-shape.result.c ≡ cells c.args.k = let e = c.shape_of-shape.ensures in shape_total _ e.1 e.0 in
    leaf_past (omega (arith, c.if-total-cell.true, total'))

pub walk_by-requires : goal.walk_by-requires
walk_by-requires c =
    let total' : c.shape_of-shape.result.r * c.shape_of-shape.result.c ≡ cells c.args.k = let c = c.shape_of-shape.ensures in shape_total _ c.1 c.0 in
    let z = c.shape_of-shape.ensures in
    record { shape = z.1; within = rw z.0 (omega (arith, c.if-total-cell.false, total')) }

pub returns : goal.returns
returns c =
    let total' : c.shape_of-shape.result.r * c.shape_of-shape.result.c ≡ cells c.args.k = let c = c.shape_of-shape.ensures in shape_total _ c.1 c.0 in
    went_says c.args.k c.args.cell _ c.shape_of-shape.ensures.0 (omega (arith, c.if-total-cell.false, total')) c.walk_by.ensures
