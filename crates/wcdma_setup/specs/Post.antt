-- What the functions of the search are given and ensure, part by part. These are definitions.
use Rattle.std.specs.Prelude.{ℕ, ◌-◌, ◌%◌, ◌<◌, ◌≤◌, List, ◌≡◌, get_or, length}
use Rattle.wcdma_shape.specs.declared.Shape.{Shape}
use Rattle.wcdma_shape.specs.Rectangle.{rows, prime}
use Rattle.wcdma_shape.specs.Post.{ShapeOf}
use Rattle.wcdma_setup.specs.Numbers.{next_q, q_of}

-- what the search for the next q is given: an odd number, 5 or more, after which there is one
pub record Sought (m last : ℕ) : Type 0 where
  pub high : 5 ≤ last
  pub odd : last % 2 ≡ 1
  pub some : next_q m last ≡ 0 → ⊥

-- the next q, which is odd and 5 or more
pub record NextOf (m last r : ℕ) : Type 0 where
  pub next_is : r ≡ next_q m last
  pub odd : r % 2 ≡ 1
  pub high : 5 ≤ r

-- what finding the numbers is given: a shape, and room for twenty
pub record NumbersIn (z : Shape) (q : List ℕ) : Type 0 where
  pub shape : ShapeOf z
  pub long : length q ≡ 20

-- the numbers of the rows of a block
abbrev pub NumbersAre : ℕ → List ℕ → Type 0
NumbersAre k q = (x : ℕ) → x < rows k → get_or q x 0 ≡ q_of (prime k - 1) x
