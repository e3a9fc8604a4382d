-- `is_full` looks at the numbers of the shape.
use mathlib.Core.Path.{refl}
use native.Mathlib.Omega.{arith}
use Rattle.wcdma_shape.specs.Shape.{cells_le, prime_small, shape_total}
use Rattle.wcdma_full.proofs.Shaped.{shape_full}
use Rattle.wcdma_full.proofs.is_full.Goals as goal

pub overflow_add-most : goal.overflow_add-most
overflow_add-most c = omega (arith, prime_small c.args.shape.k, c.requires.prime_is)

pub overflow_mul-total : goal.overflow_mul-total
overflow_mul-total c = omega (arith, cells_le c.args.shape.k, shape_total c.args.shape c.requires {k = c.args.shape.k} refl)

pub returns : goal.returns
returns c = shape_full c.args.shape c.requires
