-- The choice of R, p, C and the row order, case by case, as the functions make it.
use Prim.Native.Nat.{ℕ, ◌+◌, ◌*◌, ◌-◌, ◌/◌, ◌≤◌, ◌<◌}
use mathlib.Core.Bool.{Bool, true, false, cond, ◌||◌, or-true}
use mathlib.Core.List.{List}
use mathlib.Core.Path.{◌≡◌, refl, ap, sym, ◌∙◌}
use native.Mathlib.Nat.{div-lt_iff_lt-mul, mul_comm}
use native.Mathlib.Omega.{arith}
use native.Mathlib.Numerals.{add-one}
use lib.Dec.{leb}
use lib.ListN.{length, get_or, drop}
use lib.Seq.{drop-cons}
use borrow.Author.Tests.{le-leb, lt-leb}
use Rattle.wcdma_shape.specs.Rectangle.{within, rows, primes, first_prime, prime, cols_of, cols}
use Rattle.wcdma_shape.specs.Orders.{which_order}
use Rattle.wcdma_shape.specs.Post.{PlaceIn, ColsIn}
use Rattle.wcdma_shape.specs.Shape.{rows_pos}

module _ (k : ℕ) where
  pub rows_a : 40 ≤ k → k < 160 → rows k ≡ 5
  unfolding rows
  rows_a h l = rw (le-leb 40 k h, le-leb k 159 (omega arith))

  pub rows_b : 160 ≤ k → k < 201 → rows k ≡ 10
  unfolding rows
  rows_b h l = rw (le-leb 40 k (omega arith), lt-leb k 159 (omega arith), le-leb 160 k h, le-leb k 200 (omega arith))

  pub rows_c : 201 ≤ k → within 481 530 k ≡ true → rows k ≡ 10
  unfolding rows
  rows_c h e = rw (le-leb 40 k (omega arith), lt-leb k 159 (omega arith), e, or-true)

  pub rows_d : 201 ≤ k → within 481 530 k ≡ false → rows k ≡ 20
  unfolding rows
  rows_d h e = rw (le-leb 40 k (omega arith), lt-leb k 159 (omega arith), le-leb 160 k (omega arith), lt-leb k 200 (omega arith), e)

  pub prime_middle : within 481 530 k ≡ true → prime k ≡ 53
  unfolding prime
  prime_middle e = rw e

  prime_other : within 481 530 k ≡ false → prime k ≡ first_prime k (rows k) primes
  unfolding prime
  prime_other e = rw e

  pub cols_middle : {p : ℕ} → p ≡ prime k → within 481 530 k ≡ true → cols k ≡ p
  unfolding cols
  cols_middle q e = rw e (sym q)

  module _ {r p : ℕ} (z : ColsIn k r p) (e : within 481 530 k ≡ false) where
    here : cols k ≡ cols_of k r p
    unfolding cols
    here = rw (e, z.rows_is, z.prime_is)

    pub cols_a : k ≤ r * (p - 1) → cols k ≡ p - 1
    unfolding cols_of
    cols_a h = here ∙ rw (le-leb k (r * (p - 1)) h)

    pub cols_b : r * (p - 1) < k → k ≤ r * p → cols k ≡ p
    unfolding cols_of
    cols_b h l = here ∙ rw (lt-leb k (r * (p - 1)) h, le-leb k (r * p) l)

    pub cols_c : r * (p - 1) < k → r * p < k → cols k ≡ p + 1
    unfolding cols_of
    cols_c h l = here ∙ rw (lt-leb k (r * (p - 1)) h, lt-leb k (r * p) l)

-- the search for p, at one place of the table; K ≤ R·(p + 1) is (K - 1) / R ≤ p
module _ (k r n : ℕ) (some : 0 < k) (rows : 0 < r) (h : n < 52) where
  long : n < length primes
  unfolding primes
  long = h

  first_step : first_prime k r (drop n primes) ≡ cond (leb k (r * (get_or primes n 0 + 1))) (get_or primes n 0) (first_prime k r (drop (n + 1) primes))
  unfolding first_prime
  first_step = ap (first_prime k r) (drop-cons primes n 0 long) ∙ rw (add-one n)

  first_here : {p : ℕ} → p ≡ get_or primes n 0 → (k - 1) / r ≤ p → first_prime k r (drop n primes) ≡ get_or primes n 0
  first_here {p} e l =
      first_step ∙ rw (le-leb k (r * (get_or primes n 0 + 1)) (omega (arith, mul_comm r (get_or primes n 0 + 1), (div-lt_iff_lt-mul {x = k - 1} {y = get_or primes n 0 + 1} rows).0 (omega arith))))

  first_later : {p : ℕ} → p ≡ get_or primes n 0 → p < (k - 1) / r → first_prime k r (drop n primes) ≡ first_prime k r (drop (n + 1) primes)
  first_later {p} e l =
      first_step ∙ rw (lt-leb k (r * (get_or primes n 0 + 1)) (past (get_or primes n 0) (omega arith)))
    where
      past : (x : ℕ) → x < (k - 1) / r → r * (x + 1) < k
      past x o = let b : ¬ (k - 1 < (x + 1) * r) = λ y. let w = (div-lt_iff_lt-mul {x = k - 1} {y = x + 1} rows).1 y in omega arith in omega (arith, mul_comm r (x + 1))

first_last : (k r : ℕ) → first_prime k r (drop 51 primes) ≡ 257
unfolding first_prime primes
first_last k r = go (leb k (r * 258))
  where
    go : (b : Bool) → ◌≡◌ {A = ℕ} (cond b 257 257) 257
    go true = refl
    go false = refl

-- the loop of a search for p: p is the first prime from place n on that fits
pub record Seeking (k r n : ℕ) : Type 0 where
  pub first_from_lem : prime k ≡ first_prime k r (drop n primes)
  pub few : n ≤ 51

module _ {k r : ℕ} {list : List ℕ} (z : PlaceIn k r list) where
  pub rows_some : 0 < r
  rows_some = omega (arith, rows_pos k, z.rows_is)

  some : 0 < k
  some = let l = z.size.low in omega arith

  pub seek_first : within 481 530 k ≡ false → Seeking k r 0
  seek_first e = record { first_from_lem = prime_other k e ∙ ap (λ (r : ℕ). first_prime k r primes) (sym z.rows_is); few = omega arith }

  module _ {n : ℕ} (s : Seeking k r n) where
    pub seek_out : 51 ≤ n → prime k ≡ 257
    seek_out h = let e : n ≡ 51 = omega (arith, s.few) in s.first_from_lem ∙ rw e (first_last k r)

    module _ (h : n < 51) {p : ℕ} (read : p ≡ get_or list n 0) where
      listed : p ≡ get_or primes n 0
      listed = read ∙ ap (λ (l : List ℕ). get_or l n 0) z.table_is

      pub seek_found : (k - 1) / r ≤ p → get_or primes n 0 ≡ prime k
      seek_found l = sym (s.first_from_lem ∙ first_here k r n some rows_some (omega arith) listed l)

      pub seek_found_p : (k - 1) / r ≤ p → p ≡ prime k
      seek_found_p l = listed ∙ seek_found l

      pub seek_on : p < (k - 1) / r → Seeking k r (n + 1)
      seek_on l = record { first_from_lem = s.first_from_lem ∙ first_later k r n some rows_some (omega arith) listed l; few = omega arith }

pub which_lt : (k : ℕ) → which_order k < 2
unfolding which_order
which_lt k = go (within 2281 2480 k || within 3161 3210 k)
  where
    go : (b : Bool) → cond b 0 1 < 2
    go true = omega arith
    go false = omega arith
