-- What the walk is given behind its shape. These are definitions.
use Rattle.std.specs.Prelude.{ℕ, ◌≤◌}
use Rattle.wcdma_shape.specs.declared.Shape.{Shape}
use Rattle.wcdma_shape.specs.Rectangle.{cells}
use Rattle.wcdma_shape.specs.Post.{ShapeOf}

-- a shape, and a cell that is not past its total
pub record ByIn (z : Shape) (cell : ℕ) : Type 0 where
  pub shape : ShapeOf z
  pub within : cell ≤ cells z.k
