-- What holds of the numbers of every block: it is small enough for addresses of 16 bits, and f1 and f2 are below K.
use Rattle.std.specs.Prelude.{ℕ, ◌<◌}

pub record Whole (k f1 f2 : ℕ) : Type 0 where
  pub size : 0 < k
  pub small : k < 65536
  pub first_in : f1 < k
  pub second_in : f2 < k
