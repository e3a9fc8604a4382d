-- The least number from n on that passes a test, or 0 if there is none: of one number alone, of a list that rises, of a range, of the multiples of a
-- number, which are rounded up to. Rests on Least and Members.
use Rattle.std.specs.Prelude.{ℕ, max, ◌+◌, ◌-◌, ◌*◌, ◌/◌, ◌%◌, ◌≤◌, ◌<◌, Bool, true, false, cond, ◌&&◌, ◌||◌, ◌≡◌, refl, leb, eqb}
use Rattle.std.proofs.lemmas.Bool.{false≢true}
use mathlib.Core.List.Memᴰ
use mathlib.Core.List.{List, [], ◌∷◌, Memᴰ}
use Rattle.std.proofs.Common.{⊎_elim, div-lt_iff_lt-mul, mul-le-mul_right, div-add-mod', arith, leb-true, leb-false, le-leb, lt-ltb, eqb-true, eq-eqb}
use Rattle.std.proofs.Math.Nat.{mul-mod_left, lt-div-mul-add}
use Rattle.laws.specs.Members.{both, one_of, one_of_lem, multiple, multiple_is}
use Rattle.laws.specs.Least.{LeastFrom, least_found, least_nowhere}

-- r is the least number from n on that passes a test, or 0 if there is none
abbrev pub Next : (ℕ → Bool) → ℕ → ℕ → Type 0
Next test n r = LeastFrom (λ m. test m ≡ true) n r

-- one number
pub next_single : (u n : ℕ) → 0 < u → n ≤ u → Next (λ k. eqb k u) n u
next_single u n pos h = least_found pos (eq-eqb u u refl) h (λ m p q. omega (arith, eqb-true m u p))

pub none_single : (u n : ℕ) → u < n → Next (λ k. eqb k u) n 0
none_single u n h = least_nowhere (λ m p. omega (arith, eqb-true m u p))

-- a list that rises: its first number that is not below n, or 0
abbrev pub first_from : ℕ → List ℕ → ℕ
first_from n [] = 0
first_from n (x ∷ xs) = cond (leb n x) x (first_from n xs)

abbrev pub Rising : ℕ → List ℕ → Type 0
Rising lo [] = Unit {0}
Rising lo (x ∷ xs) = (lo < x) × Rising x xs

above : (lo : ℕ) (xs : List ℕ) → Rising lo xs → {m : ℕ} → Memᴰ m xs → lo < m
above lo [] r m = absurd (Memᴰ.not-nil m)
above lo (x ∷ xs) r m = ⊎_elim (λ e. omega (arith, r.0)) (λ i. omega (arith, r.0, above x xs r.1 i)) (Memᴰ.cases_cons m)

pub next_rising : (n lo : ℕ) (xs : List ℕ) → Rising lo xs → Next (λ k. one_of k xs) n (first_from n xs)
next_rising n lo [] r = least_nowhere (λ m p. absurd (false≢true p))
next_rising n lo (x ∷ xs) r = go (leb n x) refl (next_rising n x xs r.1)
  where
    behind : (k : ℕ) (b : Bool) → one_of k xs ≡ true → (b || one_of k xs) ≡ true
    behind k true t = refl
    behind k false t = t

    other : (m : ℕ) → x < n → (b : Bool) → eqb m x ≡ b → (b || one_of m xs) ≡ true → n ≤ m → one_of m xs ≡ true
    other m h true e t q = absurd (omega (arith, eqb-true m x e))
    other m h false e t q = t

    go : (b : Bool) → leb n x ≡ b → Next (λ k. one_of k xs) n (first_from n xs) → Next (λ k. one_of k (x ∷ xs)) n (cond b x (first_from n xs))
    go true e next =
        least_found (omega (arith, r.0)) (rw (eq-eqb x x refl) refl) (leb-true n x e)
        (λ m p q. ⊎_elim (λ e. omega arith) (λ i. omega (arith, above x xs r.1 i)) (Memᴰ.cases_cons (one_of_lem m (x ∷ xs) p)))
    go false e next = record {
      has_it = λ p. behind (first_from n xs) (eqb (first_from n xs) x) (next.has_it p);
      not_below = next.not_below;
      none_between = λ m t q. next.none_between m (other m (leb-false n x e) (eqb m x) refl t q) q;
    }

-- a range, from the first number of it that is asked for
pub next_range : (u m n : ℕ) → 0 < u → max n u ≤ m → Next (λ k. leb u k && leb k m) n (max n u)
next_range u m n pos h =
    least_found (omega arith) (rw (le-leb u (max n u) (omega arith)) (le-leb (max n u) m h)) (omega arith)
    (λ k p q. omega (arith, leb-true u k (both (leb u k) _ p).0))

pub none_range : (u m n : ℕ) → m < max n u → Next (λ k. leb u k && leb k m) n 0
none_range u m n h =
    least_nowhere (λ k p. let q = both (leb u k) _ p in omega (arith, leb-true u k q.0, leb-true k m q.1))

-- a number rounded up to a multiple of u
abbrev pub rounded : ℕ → ℕ → ℕ
rounded u a = (a + (u - 1)) / u * u

module _ (u a : ℕ) (hu : 0 < u) where
  -- it is not below it, and no multiple lies between
  pub rounded_up : a ≤ rounded u a
  rounded_up = omega (arith, lt-div-mul-add {a = a + (u - 1)} hu)

  pub rounded_least : (k : ℕ) → k % u ≡ 0 → a ≤ k → rounded u a ≤ k
  rounded_least k e h =
      let w : k ≡ k / u * u = omega (arith, div-add-mod' k u) in
      let q : (a + (u - 1)) / u < k / u + 1 = (div-lt_iff_lt-mul hu).1 (omega arith) in
      let p : (a + (u - 1)) / u ≤ k / u = omega arith in
      omega (arith, mul-le-mul_right u p)

-- the multiples, from 1 on
module _ (u m n : ℕ) (hu : 0 < u) where
  pub next_multiple : rounded u (max n 1) ≤ m → Next (multiple u m) n (rounded u (max n 1))
  next_multiple h =
      let up = rounded_up u (max n 1) hu in
      least_found (omega (arith, up))
      (rw (lt-ltb 0 (rounded u (max n 1)) (omega (arith, up)), le-leb (rounded u (max n 1)) m h, mul-mod_left ((max n 1 + (u - 1)) / u) u) refl)
      (omega (arith, up))
      (λ k t q. let p = multiple_is u m k t in rounded_least u (max n 1) hu k p.2 (omega (arith, p.0)))

  pub none_multiple : m < rounded u (max n 1) → Next (multiple u m) n 0
  none_multiple h = least_nowhere (λ k t. below k (multiple_is u m k t) (leb n k) refl)
    where
      below : (k : ℕ) → (0 < k) × (k ≤ m) × (k % u ≡ 0) → (b : Bool) → leb n k ≡ b → k < n
      below k p true q = absurd (omega (arith, rounded_least u (max n 1) hu k p.2 (omega (arith, p.0, leb-true n k q)), p.1))
      below k p false q = leb-false n k q

pub past_multiple : (u m n : ℕ) → m < n → Next (multiple u m) n 0
past_multiple u m n h = least_nowhere (λ k t. omega (arith, (multiple_is u m k t).1))
