-- One step of the search for q, and of the test for a prime: even numbers are passed over, and an odd number from 7 to 89 is a prime where
-- no odd number up to its root divides it, by one computed test.
use Prim.Native.Nat.{ℕ, zero, suc, ◌+◌, ◌*◌, ◌-◌, ◌%◌, ◌≤◌, ◌<◌}
use mathlib.Core.Bool.{Bool, true, false, cond, not, ◌&&◌, ◌||◌}
use mathlib.Core.Logic.{⊎_elim}
use mathlib.Core.Path.{◌≡◌, refl, ap, sym, ◌∙◌}
use native.Mathlib.Nat.{mul-le-mul, eq-or-lt_of_le}
use native.Mathlib.Omega.{arith}
use lib.Dec.{eqb, ltb}
use borrow.Author.Tests.{ltb-true, ltb-false, eq-eqb, ne_eqb, le-ltb, lt-ltb}
use Rattle.laws.specs.Euclid.{gcd}
use Rattle.laws.specs.Span.{span, at_number}
use Rattle.wcdma_setup.specs.Numbers.{no_divisor, is_prime, passes, next_in, farthest, next_q}

next_step : (m q : ℕ) → q < farthest → next_in m (suc q) (farthest - q) ≡ cond (passes m (suc q)) (suc q) (next_in m (suc (suc q)) (farthest - suc q))
unfolding next_in
next_step m q h = rw (let e : farthest - q ≡ suc (farthest - suc q) = omega arith in e)

-- where one is still to be found, the farthest is not reached
pub below_farthest : (m q : ℕ) → (next_in m (suc q) (farthest - q) ≡ 0 → ⊥) → q < farthest
unfolding next_in
below_farthest m q h = go (ltb q farthest) refl
  where
    go : (b : Bool) → ltb q farthest ≡ b → q < farthest
    go true e = ltb-true q farthest e
    go false e = let l = ltb-false q farthest e in absurd (h (rw (let e : farthest - q ≡ 0 = omega arith in e)))

pub even_prime : (q : ℕ) → 2 < q → q % 2 ≡ 0 → is_prime q ≡ false
unfolding is_prime no_divisor
even_prime q h e = rw (lt-ltb 1 q (omega arith), let w : q - 2 ≡ suc (q - 3) = omega arith in w, eq-eqb (q % 2) 0 e)

-- a number that is no prime is passed over
passed_over : (m q : ℕ) → q < farthest → is_prime (suc q) ≡ false → next_in m (suc q) (farthest - q) ≡ next_in m (suc (suc q)) (farthest - suc q)
unfolding passes
passed_over m q h e = next_step m q h ∙ rw e

-- from 5 on the search goes on from where it is: 6 is no prime
pub search_on : (m q : ℕ) → 5 ≤ q → next_q m q ≡ next_in m (suc q) (farthest - q)
unfolding next_q
search_on m q h =
    ⊎_elim (λ e. rw (← e) (sym (passed_over m 5 (omega arith) (even_prime 6 (omega arith) refl)))) (λ l. rw (le-ltb q 6 l)) (eq-or-lt_of_le h)

-- after an odd q the candidate is q + 2
module _ (m q : ℕ) (big : 5 ≤ q) (h : q < farthest) (o : q % 2 ≡ 1) where
  pub candidate_odd : (q + 2) % 2 ≡ 1
  candidate_odd = omega arith

  pub candidate_low : q + 2 < 90
  candidate_low = omega arith

  candidate : next_in m (suc q) (farthest - q) ≡ cond (passes m (q + 2)) (q + 2) (next_in m (suc (q + 2)) (farthest - (q + 2)))
  candidate =
      passed_over m q h (even_prime (suc q) (omega arith) (omega arith))
      ∙ next_step m (suc q) (omega arith)
      ∙ ap (λ (x : ℕ). cond (passes m x) x (next_in m (suc x) (farthest - x))) (let e : suc (suc q) ≡ q + 2 = omega arith in e)

  -- one that is no prime, or has a common divisor with m, is passed over
  pub next_composite : is_prime (q + 2) ≡ false → next_in m (suc q) (farthest - q) ≡ next_in m (suc (q + 2)) (farthest - (q + 2))
  unfolding passes
  next_composite e = candidate ∙ rw e

  pub next_shared : is_prime (q + 2) ≡ true → (gcd m (q + 2) ≡ 1 → ⊥) → next_in m (suc q) (farthest - q) ≡ next_in m (suc (q + 2)) (farthest - (q + 2))
  unfolding passes
  next_shared e n = candidate ∙ rw (e, ne_eqb (gcd m (q + 2)) 1 n)

  pub next_found : is_prime (q + 2) ≡ true → gcd m (q + 2) ≡ 1 → next_in m (suc q) (farthest - q) ≡ q + 2
  unfolding passes
  next_found e n = candidate ∙ rw (e, eq-eqb (gcd m (q + 2)) 1 n)

-- the test that the code makes of an odd q: the odd divisors from d up whose square is at most q
unfoldable pub odd_test : ℕ → ℕ → ℕ → Bool
odd_test q d zero = true
odd_test q d (suc zero) = true
odd_test q d (suc (suc n)) =
    let later = odd_test q (d + 2) n in
    ltb q (d * d) || (not (eqb (q % d) 0) && later)

abbrev same : Bool → Bool → Bool
same true b = b
same false b = not b

same_is : (a b : Bool) → same a b ≡ true → a ≡ b
same_is true true t = refl
same_is true false t = sym t
same_is false true t = t
same_is false false t = refl

abbrev agrees : ℕ → Bool
agrees q = eqb (q % 2) 0 || same (is_prime q) (odd_test q 3 8)

all_agree : span agrees 7 83 ≡ true
unfolding is_prime no_divisor odd_test
all_agree = refl

-- it is the test for a prime, for each odd q from 7 to 89
pub odd_prime : (q : ℕ) → 6 < q → q < 90 → q % 2 ≡ 1 → is_prime q ≡ odd_test q 3 8
odd_prime q h l o =
    same_is (is_prime q) (odd_test q 3 8) (rw (ne_eqb (q % 2) 0 (λ e. omega arith)) at (at_number agrees 7 83 all_agree q h (omega arith)))

pub small_root : (d q : ℕ) → d * d ≤ q → q < 90 → d ≤ 9
small_root d q h l = go (ltb d 10) refl
  where
    go : (b : Bool) → ltb d 10 ≡ b → d ≤ 9
    go true e = omega (arith, ltb-true d 10 e)
    go false e = let a : 10 * 10 ≤ d * d = mul-le-mul (ltb-false d 10 e) (ltb-false d 10 e) in omega arith

module _ (q d : ℕ) (h : d * d ≤ q) (l : q < 90) where
  odd_step : odd_test q d (11 - d) ≡ (not (eqb (q % d) 0) && odd_test q (d + 2) (11 - (d + 2)))
  unfolding odd_test
  odd_step = let s = small_root d q h l in rw (let e : 11 - d ≡ suc (suc (11 - (d + 2))) = omega arith in e, le-ltb q (d * d) h)

  pub odd_found : q % d ≡ 0 → odd_test q d (11 - d) ≡ false
  odd_found e = odd_step ∙ rw (eq-eqb (q % d) 0 e)

  pub odd_not : (q % d ≡ 0 → ⊥) → odd_test q d (11 - d) ≡ odd_test q (d + 2) (11 - (d + 2))
  odd_not n = odd_step ∙ rw (ne_eqb (q % d) 0 n)

odd_any : (q d n : ℕ) → q < d * d → odd_test q d n ≡ true
unfolding odd_test
odd_any q d zero h = refl
odd_any q d (suc zero) h = refl
odd_any q d (suc (suc n)) h = rw (lt-ltb q (d * d) h)

pub odd_end : (q d : ℕ) → q < d * d → odd_test q d (11 - d) ≡ true
odd_end q d h = odd_any q d (11 - d) h
