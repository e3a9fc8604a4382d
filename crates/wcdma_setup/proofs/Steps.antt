-- One turn of the loop that finds the numbers q.
use Prim.Native.Nat.{ℕ, ◌+◌}
use mathlib.Core.Path.{◌≡◌, refl}
use native.Mathlib.Numerals.{add-one}
use Rattle.wcdma_setup.specs.Numbers.{next_q, q_of}

pub q_next : (m i last : ℕ) → last ≡ q_of m i → next_q m last ≡ q_of m (i + 1)
unfolding q_of
q_next m i last e = rw (e, add-one)

-- the first is what comes after 5, as after 1
pub first_next : (m : ℕ) → next_q m 5 ≡ q_of m 1
unfolding q_of next_q
first_next m = refl
