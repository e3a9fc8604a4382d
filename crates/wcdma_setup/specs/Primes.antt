-- What a prime is, that the table of crate wcdma_shape holds all the primes from 7 to 257, and what the search for q finds. Rests on Numbers.
use Rattle.std.specs.Prelude.{ℕ, zero, suc, ◌+◌, ◌-◌, ◌%◌, ◌≤◌, ◌<◌, Bool, true, false, cond, not, ◌&&◌, ◌≡◌, refl, ◌↔◌, eqb, ltb}
use Rattle.std.proofs.lemmas.Bool.{false≢true, eqb-false}
use Rattle.std.proofs.Common.{true≢false, ap, sym, ◌∙◌, subst, ⊎_elim, eq-or-lt_of_le, arith, ltb-true, lt-ltb, ltb-false, eqb-true, eq-eqb, ne_eqb}
use mathlib.Core.List.{List, Memᴰ}
use Rattle.laws.specs.Euclid.{gcd}
use Rattle.laws.specs.Members.{both, every, at_each}
use Rattle.laws.specs.Keep.{keep}
use Rattle.laws.specs.Cut.{keep_has}
use Rattle.wcdma_shape.specs.Rectangle.{primes}
use Rattle.wcdma_shape.specs.Shape.{listed_big, listed_small}
use Rattle.wcdma_setup.specs.Numbers.{no_divisor, is_prime, passes, next_in, above, farthest, next_q}

-- q is above 1 and has no divisor from 2 to q - 1
pub record Prime (q : ℕ) : Type 0 where
  pub above_one : 1 < q
  pub undivided : (d : ℕ) → 2 ≤ d → d < q → q % d ≡ 0 → ⊥

none_divides : (q d n : ℕ) → no_divisor q d n ≡ true → (x : ℕ) → d ≤ x → x < d + n → q % x ≡ 0 → ⊥
unfolding no_divisor
none_divides q d zero t x h l e = omega arith
none_divides q d (suc n) t x h l e = go (eqb (q % d) 0) refl t (λ t o. none_divides q (suc d) n t x o (omega arith) e)
  where
    go : (b : Bool) → eqb (q % d) 0 ≡ b → (not b && no_divisor q (suc d) n) ≡ true → (no_divisor q (suc d) n ≡ true → suc d ≤ x → ⊥) → ⊥
    go true w t r = false≢true t
    go false w t r = ⊎_elim (λ (o : d ≡ x). eqb-false (q % d) 0 w (ap (λ (y : ℕ). q % y) o ∙ e)) (λ o. r t o) (eq-or-lt_of_le h)

divides_none : (q d n : ℕ) → ((x : ℕ) → d ≤ x → x < d + n → q % x ≡ 0 → ⊥) → no_divisor q d n ≡ true
unfolding no_divisor
divides_none q d zero h = refl
divides_none q d (suc n) h =
    rw (ne_eqb (q % d) 0 (h d (omega arith) (omega arith))) (divides_none q (suc d) n (λ x l m. h x (omega arith) (omega arith)))

pub is_prime_lem : (q : ℕ) → is_prime q ≡ true → Prime q
unfolding is_prime
is_prime_lem q t =
    let s = both (ltb 1 q) (no_divisor q 2 (q - 2)) t in
    let o = ltb-true 1 q s.0 in
    record { above_one = o; undivided = λ d h l. none_divides q 2 (q - 2) s.1 d h (omega arith) }

pub prime_is : (q : ℕ) → Prime q → is_prime q ≡ true
unfolding is_prime
prime_is q p =
    let o = p.above_one in
    rw (lt-ltb 1 q o) (divides_none q 2 (q - 2) (λ x h l. p.undivided x h (omega arith)))

-- the table is all the primes from 7 to 257
primes_all : keep (λ x. x) is_prime 7 251 ≡ primes
unfolding keep is_prime no_divisor primes
primes_all = refl

all_prime : every is_prime primes ≡ true
unfolding is_prime no_divisor primes
all_prime = refl

pub primes_are : (p : ℕ) → Memᴰ p primes ↔ (Prime p × (7 ≤ p) × (p ≤ 257))
primes_are p = (
  λ m. let l = listed_small m in (is_prime_lem p (at_each is_prime primes all_prime m), listed_big m, omega arith),
  λ h. subst (λ (l : List ℕ). Memᴰ p l) primes_all (keep_has (λ x. x) is_prime 7 251 p h.1 (omega (arith, h.2)) (prime_is p h.0)),
)

-- q is the least number above 6 and above last that is a prime with no common divisor with m
pub record Next (m last q : ℕ) : Type 0 where
  pub prime : Prime q
  pub above_six : 6 < q
  pub above_last : last < q
  pub alone : gcd m q ≡ 1
  pub least : (x : ℕ) → 6 < x → last < x → Prime x → gcd m x ≡ 1 → q ≤ x

next_passes : (m q n : ℕ) → (next_in m q n ≡ 0 → ⊥) → (passes m (next_in m q n) ≡ true) × (q ≤ next_in m q n)
unfolding next_in
next_passes m q zero h = absurd (h refl)
next_passes m q (suc n) h = go (passes m q) refl h (next_passes m (suc q) n)
  where
    go : (b : Bool) → passes m q ≡ b → (cond b q (next_in m (suc q) n) ≡ 0 → ⊥)
        → ((next_in m (suc q) n ≡ 0 → ⊥) → (passes m (next_in m (suc q) n) ≡ true) × (suc q ≤ next_in m (suc q) n))
        → (passes m (cond b q (next_in m (suc q) n)) ≡ true) × (q ≤ cond b q (next_in m (suc q) n))
    go true e h r = (e, omega arith)
    go false e h r = ((r h).0, let l = (r h).1 in omega arith)

next_least : (m q n x : ℕ) → q ≤ x → x < next_in m q n → passes m x ≡ false
unfolding next_in
next_least m q zero x h l = absurd (omega arith)
next_least m q (suc n) x h l = go (passes m q) refl l (next_least m (suc q) n x)
  where
    go : (b : Bool) → passes m q ≡ b → x < cond b q (next_in m (suc q) n) → (suc q ≤ x → x < next_in m (suc q) n → passes m x ≡ false) → passes m x ≡ false
    go true e l r = absurd (omega arith)
    go false e l r = ⊎_elim (λ (o : q ≡ x). subst (λ (y : ℕ). passes m y ≡ false) o e) (λ o. r o l) (eq-or-lt_of_le h)

above_both : (q : ℕ) → (6 ≤ above q) × (q ≤ above q)
above_both q = go (ltb q 6) refl
  where
    go : (b : Bool) → ltb q 6 ≡ b → (6 ≤ cond b 6 q) × (q ≤ cond b 6 q)
    go true e = let h = ltb-true q 6 e in (omega arith, omega arith)
    go false e = let h = ltb-false q 6 e in (omega arith, omega arith)

above_least : (q x : ℕ) → 6 < x → q < x → above q < x
above_least q x h l = go (ltb q 6)
  where
    go : (b : Bool) → cond b 6 q < x
    go true = h
    go false = l

-- what the search gives, if it gives one, is that number
pub next_is : (m last : ℕ) → (next_q m last ≡ 0 → ⊥) → Next m last (next_q m last)
unfolding next_q passes
next_is m last h =
    let f = next_passes m (suc (above last)) (farthest - above last) h in
    let s = both (is_prime (next_q m last)) (eqb (gcd m (next_q m last)) 1) f.0 in
    let a = above_both last in
    let o = f.1 in
    record {
      prime = is_prime_lem (next_q m last) s.0;
      above_six = omega arith;
      above_last = omega arith;
      alone = eqb-true (gcd m (next_q m last)) 1 s.1;
      least = λ x b c p g.
          let n : ¬ (x < next_q m last) = λ l.
          true≢false (sym (fits x p g) ∙ next_least m (suc (above last)) (farthest - above last) x (above_least last x b c) l) in
          omega arith;
    }
  where
    fits : (x : ℕ) → Prime x → gcd m x ≡ 1 → passes m x ≡ true
    fits x p g = rw (prime_is x p, eq-eqb (gcd m x) 1 g)

-- it is at most 89, as far as is looked
none_above : (m q n top : ℕ) → (0 < n → q + n ≤ suc top) → next_in m q n ≤ top
unfolding next_in
none_above m q zero top h = omega arith
none_above m q (suc n) top h = go (passes m q) (none_above m (suc q) n top (λ o. let l = h (omega arith) in omega arith))
  where
    go : (b : Bool) → next_in m (suc q) n ≤ top → cond b q (next_in m (suc q) n) ≤ top
    go true l = let o = h (omega arith) in omega arith
    go false l = l

pub next_low : (m last : ℕ) → next_q m last ≤ farthest
unfolding next_q
next_low m last = none_above m (suc (above last)) (farthest - above last) farthest (λ o. omega arith)
