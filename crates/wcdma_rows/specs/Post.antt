-- What laying out the rows is given and ensures. Rests on the shape and the set-up. These are definitions.
use Rattle.std.specs.Prelude.{ℕ, ◌≤◌, List, ◌≡◌, length}
use Rattle.wcdma_shape.specs.declared.Shape.{Shape}
use Rattle.wcdma_shape.specs.Post.{ShapeOf}
use Rattle.wcdma_setup.specs.Post.{NumbersAre}

pub record LayIn (z : Shape) (q : List ℕ) (j : ℕ) (base fall at : List ℕ) : Type 0 where
  pub shape : ShapeOf z
  pub numbers : NumbersAre z.k q
  pub column : j ≤ 300
  pub base_long : length base ≡ 20
  pub fall_long : length fall ≡ 20
  pub at_long : length at ≡ 20
