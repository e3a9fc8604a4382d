-- What the functions that make S are given and ensure, part by part. Rests on Powers and Roots of wcdma_shape. These are definitions.
use Rattle.std.specs.Prelude.{ℕ, ◌+◌, ◌-◌, ◌/◌, ◌%◌, ◌<◌, ◌≤◌, List, true, cond, ◌≡◌, get_or, length, eqb}
use Rattle.wcdma_shape.specs.Powers.{power, is_table_root}
use Rattle.wcdma_shape.specs.Roots.{Root}

-- how much less than the power a column's number is: 1 where there are p - 1 columns
abbrev pub short_by : ℕ → ℕ → ℕ
short_by c p = cond (eqb c (p - 1)) 1 0

pub record StepIn (p v last : ℕ) : Type 0 where
  pub big : 6 < p
  pub small : p < 258
  pub six : is_table_root v ≡ true
  pub below : last < p

-- the first half is there, none of it above top
pub record HalfIn (top half : ℕ) (s : List ℕ) : Type 0 where
  pub room : half + half ≤ 256
  pub small : top < 65536
  pub low : (x : ℕ) → x < half → get_or s x 0 ≤ top
  pub long : length s ≡ 256

-- of the second half n are made: each is one of the first, taken from top
pub record HalvesOf (top half n : ℕ) (s after : List ℕ) : Type 0 where
  pub first : (x : ℕ) → x < half → get_or after x 0 ≡ get_or s x 0
  pub second : (x : ℕ) → x < n → get_or after (half + x) 0 ≡ top - get_or s x 0

-- v is a primitive root of p, which is odd, and the powers from halfway on are those from the first on, taken from p
pub record PowersIn (p v less : ℕ) (s : List ℕ) : Type 0 where
  pub small : p < 258
  pub root : Root p v
  pub odd : p % 2 ≡ 1
  pub second : (x : ℕ) → power p v (x + (p - 1) / 2) ≡ p - power p v x
  pub least : less ≤ 1
  pub long : length s ≡ 256
