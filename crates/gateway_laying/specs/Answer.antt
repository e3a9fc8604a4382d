-- What laying out asks: a list of known kinds, 8 at most, another as long, and a store of their length. These are definitions.
use Rattle.std.specs.Prelude.{ℕ, ◌≤◌, true, List, ◌≡◌, length}
use Rattle.laws.specs.Members.{every}
use Rattle.kinds.specs.Kinds.{known}
use Rattle.gateway_laying.specs.Laid.{store_length}

pub record Lists (kinds : List ℕ) (long room : ℕ) : Type 0 where
  pub few : length kinds ≤ 8
  pub good : every known kinds ≡ true
  pub equal : long ≡ length kinds
  pub fits : room ≡ store_length kinds
