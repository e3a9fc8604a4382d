-- A number's bytes say it; what is read behind a front of bytes is read without it, and what is read of a part is read of the whole.
use Rattle.std.specs.Prelude.{ℕ, ◌+◌, ◌*◌, ◌/◌, ◌%◌, ◌≤◌, ◌<◌, List, ◌++◌, ◌≡◌, refl, length, get_or, take}
use Rattle.std.proofs.Common.{sym, ap, ◌∙◌, add-zero, div-add-mod', mod-eq_of_lt, arith, get_or-append-add, length-take-le}
use Rattle.std.proofs.Math.Nat.{add_assoc, div-div-eq-div-mul}
use Rattle.laws.specs.Chained.{chained_part, chained_length}
use Rattle.laws.specs.Members.{chained}
use Rattle.laws.specs.Parts.{part, get_d_part}
use Rattle.big_end.specs.Numbers.{byte_at, number_at, pair_at, number_bytes}

pub number_back : (v : ℕ) → v < 4294967296 → ((v / 16777216 % 256 * 256 + v / 65536 % 256) * 256 + v / 256 % 256) * 256 + v % 256 ≡ v
number_back v h =
    let a : v / 65536 ≡ v / 256 / 256 = sym (div-div-eq-div-mul v 256 256) in
    let b : v / 16777216 ≡ v / 256 / 256 / 256 = sym (ap (λ (x : ℕ). x / 256) (div-div-eq-div-mul v 256 256) ∙ div-div-eq-div-mul v 65536 256) in
    let c : v / 256 / 256 / 256 < 256 = low v b h in
    rw (a, b)
    (ap (λ (x : ℕ). ((x * 256 + v / 256 / 256 % 256) * 256 + v / 256 % 256) * 256 + v % 256) (mod-eq_of_lt c)
    ∙ ap (λ (x : ℕ). (x * 256 + v / 256 % 256) * 256 + v % 256) (div-add-mod' (v / 256 / 256) 256)
    ∙ ap (λ (x : ℕ). x * 256 + v % 256) (div-add-mod' (v / 256) 256)
    ∙ div-add-mod' v 256)
  where
    low : (v : ℕ) → v / 16777216 ≡ v / 256 / 256 / 256 → v < 4294967296 → v / 256 / 256 / 256 < 256
    low v b h = rw (← b) (omega arith)

pub pair_back : (v : ℕ) → v < 65536 → v / 256 % 256 * 256 + v % 256 ≡ v
pair_back v h = omega arith

-- behind a front of `at` bytes
module _ (p l : List ℕ) (at k : ℕ) (e : length p ≡ at) where
  byte_part : (j : ℕ) → byte_at (p ++ l) (at + j) ≡ byte_at l j
  byte_part j = rw (← e) (get_or-append-add p l j 0)

  pub number_part : number_at (p ++ l) (at + k) ≡ number_at l k
  unfolding number_at
  number_part = rw (add_assoc at k 1, add_assoc at k 2, add_assoc at k 3) (rw (byte_part k, byte_part (k + 1), byte_part (k + 2), byte_part (k + 3)))

  pub pair_part : pair_at (p ++ l) (at + k) ≡ pair_at l k
  unfolding pair_at
  pair_part = rw (add_assoc at k 1) (rw (byte_part k, byte_part (k + 1)))

-- a number by the four bytes that stand at its place
pub number_of_part : (f : List ℕ) (at : ℕ) → number_at (part at 4 f) 0 ≡ number_at f at
unfolding number_at
number_of_part f at =
    rw (get_d_part at 4 f 0 0 (omega arith), get_d_part at 4 f 1 0 (omega arith), get_d_part at 4 f 2 0 (omega arith), get_d_part at 4 f 3 0 (omega arith), add-zero at)

-- the numbers of a part
pub number_in_part : (f : List ℕ) (at n k : ℕ) → k + 4 ≤ n → number_at (part at n f) k ≡ number_at f (at + k)
unfolding number_at
number_in_part f at n k h =
    rw (
      get_d_part at n f k 0 (omega arith),
      get_d_part at n f (k + 1) 0 (omega arith),
      get_d_part at n f (k + 2) 0 (omega arith),
      get_d_part at n f (k + 3) 0 (omega arith),
      add_assoc at k 1,
      add_assoc at k 2,
      add_assoc at k 3,
    )

-- numbers one after the other, read back
pub numbers_back : (vs rest : List ℕ) → ((i : ℕ) → i < length vs → get_or vs i 0 < 4294967296) → (i : ℕ) → i < length vs
    → number_at (chained number_bytes vs ++ rest) (4 * i) ≡ get_or vs i 0
unfolding number_at
numbers_back vs rest low i h =
    sym (number_of_part (chained number_bytes vs ++ rest) (4 * i))
    ∙ ap (λ (l : List ℕ). number_at l 0)
    (chained_part number_bytes vs rest i 0 h (chained_length number_bytes 4 (λ v. refl) (take i vs) ∙ ap (λ (n : ℕ). 4 * n) (length-take-le i vs (omega arith))) refl)
    ∙ number_back (get_or vs i 0) (low i h)
