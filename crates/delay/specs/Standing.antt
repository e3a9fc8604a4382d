-- A machine that stands within its ranges, and where one stands that stood at R, some bytes ago.
use Prim.Native.Nat.{ℕ, suc, ◌+◌, ◌*◌, ◌%◌, ◌≤◌, ◌<◌}
use Rattle.std.specs.Prelude.{◌≡◌, length, get_or}
use Rattle.delay.specs.Machine.{Machine, Stand, place_of}
use Rattle.delay.specs.Bytes.{ring_at, row_at}

-- branch and places in their ranges, and a place for each ring
pub record Within (M : Machine) (R : Stand) : Type 0 where
  pub branch : R.branch < M.branches
  pub long : M.branches ≤ suc (length R.places)
  pub places : (x : ℕ) → 0 < x → x < M.branches → place_of R x < M.step * x

-- where a machine stands that stood at R, t bytes ago. The places are told by the bytes to come: of each ring one is among the next branches
pub record After (M : Machine) (R : Stand) (t : ℕ) (Q : Stand) : Type 0 where
  pub branch : Q.branch ≡ (R.branch + t) % M.branches
  pub long : length Q.places ≡ length R.places
  pub rows : (u : ℕ) → t ≤ u → u < t + M.branches → 0 < ring_at M R u → place_of Q (ring_at M R u) ≡ row_at M R u
  pub others : (i : ℕ) → M.branches ≤ suc i → get_or Q.places i 0 ≡ get_or R.places i 0
