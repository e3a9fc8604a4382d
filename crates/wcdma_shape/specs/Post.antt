-- What the functions of the rectangle are given and ensure, part by part. These are definitions.
use Rattle.std.specs.Prelude.{ℕ, ◌<◌, List, ◌≡◌, get_or}
use Rattle.wcdma_shape.specs.declared.Shape.{Shape}
use Rattle.wcdma_shape.specs.Rectangle.{Size, rows, primes, prime, cols}
use Rattle.wcdma_shape.specs.Powers.{root}
use Rattle.wcdma_shape.specs.Orders.{order_of}

-- a shape holds R, p, C and v of its size
pub record ShapeOf (s : Shape) : Type 0 where
  pub size : Size s.k
  pub rows_is : s.r ≡ rows s.k
  pub prime_is : s.p ≡ prime s.k
  pub cols_is : s.c ≡ cols s.k
  pub root_is : s.v ≡ root (prime s.k)

-- what the search for p is given: R and the table
pub record PlaceIn (k r : ℕ) (list : List ℕ) : Type 0 where
  pub size : Size k
  pub rows_is : r ≡ rows k
  pub table_is : list ≡ primes

pub record PlaceOf (k n : ℕ) : Type 0 where
  pub listed : n < 52
  pub prime_is : get_or primes n 0 ≡ prime k

pub record ColsIn (k r p : ℕ) : Type 0 where
  pub size : Size k
  pub rows_is : r ≡ rows k
  pub prime_is : p ≡ prime k

pub record RowIn (k r i : ℕ) (order : List ℕ) : Type 0 where
  pub rows_is : r ≡ rows k
  pub below : i < r
  pub order_is : order ≡ order_of k
