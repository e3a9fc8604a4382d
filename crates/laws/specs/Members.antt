-- Tables: what one computed test shows of every entry holds of each member; lists one after the other, and what stands in them; and tests of a number
-- that say it is on a list.
use Rattle.std.specs.Prelude.{◌≡◌, refl, Bool, true, false, not, ◌&&◌, ◌||◌, ◌⊎◌, ℕ, zero, suc, ◌+◌, ◌*◌, ◌/◌, ◌%◌, ◌≤◌, ◌<◌, ltb, leb, eqb}
use Rattle.std.proofs.Common.{sym, ap, ◌∙◌, subst, inl, inr, ⊎_elim, le-div_iff_mul-le, mul-zero, mul-suc, arith, eq-eqb, ltb-true, leb-true, eqb-true}
use Rattle.std.proofs.Math.Bool.{or-true}
use Rattle.std.proofs.lemmas.Bool.{false≢true, not-true, not-false}
use mathlib.Core.List.Memᴰ
use mathlib.Core.List.{List, [], ◌∷◌, ◌++◌, Memᴰ}
use Rattle.std.proofs.Math.Nat.{div-add-mod}
use Rattle.laws.specs.Run.{run, run_mem}

-- both tests pass
pub both : (a b : Bool) → (a && b) ≡ true → (a ≡ true) × (b ≡ true)
both true b e = (refl, e)
both false b e = absurd (false≢true e)

-- of two tests one fails
pub one_fails : {P Q : Type 0} (a b : Bool) → (a ≡ false → P) → (b ≡ false → Q) → (a && b) ≡ false → P ⊎ Q
one_fails false b p q e = inl (p refl)
one_fails true b p q e = inr (q e)

-- r is the test t, as code has it: where it fails, and where it passes
pub fails : {r t : Bool} → r ≡ t → not r ≡ true → t ≡ false
fails {r} e q = sym e ∙ not-true r q

pub passes : {r t : Bool} → r ≡ t → not r ≡ false → t ≡ true
passes {r} e q = sym e ∙ not-false r q

module _ {A : Type 0} (test : A → Bool) where
  abbrev pub every : List A → Bool
  every [] = true
  every (x ∷ xs) = test x && every xs

  pub at_each : (l : List A) → every l ≡ true → {a : A} → Memᴰ a l → test a ≡ true
  at_each [] e m = absurd (Memᴰ.not-nil m)
  at_each (x ∷ xs) e m =
      let p = both (test x) (every xs) e in
      ⊎_elim (λ q. ap test q ∙ p.0) (at_each xs p.1) (Memᴰ.cases_cons m)

  -- of a list by a rule: the test of each entry
  pub at_run : (g : ℕ → A) (a n : ℕ) → every (run g a n) ≡ true → (i : ℕ) → a ≤ i → i < a + n → test (g i) ≡ true
  at_run g a n e i h l = at_each (run g a n) e (run_mem g a n i h l)

  pub every_run : (g : ℕ → A) (a n : ℕ) → ((i : ℕ) → a ≤ i → i < a + n → test (g i) ≡ true) → every (run g a n) ≡ true
  every_run g a zero h = refl
  every_run g a (suc n) h = rw (h a (omega arith) (omega arith)) (every_run g (suc a) n (λ i l m. h i (omega arith) (omega arith)))

-- what holds at each entry of a list
abbrev pub All : {A : Type 0} → (A → Type 0) → List A → Type 0
All P [] = Unit {0}
All P (x ∷ xs) = P x × All P xs

-- holds of each member
pub by_member : {A : Type 0} (P : A → Type 0) (l : List A) → All P l → {a : A} → Memᴰ a l → P a
by_member P [] h m = absurd (Memᴰ.not-nil m)
by_member P (x ∷ xs) h m = ⊎_elim (λ q. subst P (sym q) h.0) (by_member P xs h.1) (Memᴰ.cases_cons m)

-- of two lists, one after the other
pub all_join : {A : Type 0} (P : A → Type 0) (xs ys : List A) → All P xs → All P ys → All P (xs ++ ys)
all_join P [] ys h g = g
all_join P (x ∷ xs) ys h g = (h.0, all_join P xs ys h.1 g)

-- and where a test that every entry passes shows it
pub all_tested : {A : Type 0} {P : A → Type 0} (test : A → Bool) → ((x : A) → test x ≡ true → P x) → (l : List A) → every test l ≡ true → All P l
all_tested test show [] e = tt
all_tested test show (x ∷ xs) e = let p = both (test x) (every test xs) e in (show x p.0, all_tested test show xs p.1)

-- what each entry of a list gives, one list after the other; and what stands there
module _ {A B : Type 0} (f : A → List B) where
  abbrev pub chained : List A → List B
  chained [] = []
  chained (x ∷ xs) = f x ++ chained xs

  pub in_chained : (xs : List A) {x : A} {y : B} → Memᴰ x xs → Memᴰ y (f x) → Memᴰ y (chained xs)
  in_chained [] m h = absurd (Memᴰ.not-nil m)
  in_chained (z ∷ xs) {x} {y} m h = ⊎_elim here (λ l. Memᴰ.append_right (f z) (in_chained xs l h)) (Memᴰ.cases_cons m)
    where
      here : x ≡ z → Memᴰ y (chained (z ∷ xs))
      here e = rw (← e) (Memᴰ.append_left (chained xs) h)

  pub of_chained : (xs : List A) {y : B} → Memᴰ y (chained xs) → (x : A) × Memᴰ x xs × Memᴰ y (f x)
  of_chained [] m = absurd (Memᴰ.not-nil m)
  of_chained (z ∷ xs) m =
      ⊎_elim (λ h. (z, Memᴰ.head refl, h)) (λ h. let r = of_chained xs h in (r.0, Memᴰ.tail r.1, r.2))
      (Memᴰ.append_cases (f z) m)

-- a number is one of two, as a test
pub either_is : (a b x : ℕ) → (eqb x a || eqb x b) ≡ true → (x ≡ a) ⊎ (x ≡ b)
either_is a b x e = go (eqb x a) refl e
  where
    go : (t : Bool) → eqb x a ≡ t → (t || eqb x b) ≡ true → (x ≡ a) ⊎ (x ≡ b)
    go true q e = inl (eqb-true x a q)
    go false q e = inr (eqb-true x b e)

pub is_either : (a b x : ℕ) → (x ≡ a) ⊎ (x ≡ b) → (eqb x a || eqb x b) ≡ true
is_either a b x (inl e) = rw (eq-eqb x a e)
is_either a b x (inr e) = rw (eq-eqb x b e) (or-true (eqb x a))

-- a number is one of a list, as a test
abbrev pub one_of : ℕ → List ℕ → Bool
one_of x [] = false
one_of x (y ∷ ys) = eqb x y || one_of x ys

pub one_of_lem : (x : ℕ) (ys : List ℕ) → one_of x ys ≡ true → Memᴰ x ys
one_of_lem x [] e = absurd (false≢true e)
one_of_lem x (y ∷ ys) e = go (eqb x y) refl e (one_of_lem x ys)
  where
    go : (b : Bool) → eqb x y ≡ b → (b || one_of x ys) ≡ true → (one_of x ys ≡ true → Memᴰ x ys) → Memᴰ x (y ∷ ys)
    go true q e r = Memᴰ.head (eqb-true x y q)
    go false q e r = Memᴰ.tail (r e)

-- n is a positive multiple of u, at most m: as a test, and counted out
abbrev pub multiple : ℕ → ℕ → ℕ → Bool
multiple u m n = ltb 0 n && (leb n m && eqb (n % u) 0)

pub multiple_is : (u m n : ℕ) → multiple u m n ≡ true → (0 < n) × (n ≤ m) × (n % u ≡ 0)
multiple_is u m n e =
    let p = both (ltb 0 n) (leb n m && eqb (n % u) 0) e in
    let q = both (leb n m) (eqb (n % u) 0) p.1 in
    (ltb-true 0 n p.0, leb-true n m q.0, eqb-true (n % u) 0 q.1)

pub multiple_of : (u m n : ℕ) → 0 < u → multiple u m n ≡ true → Memᴰ n (run (λ j. u * j) 1 (m / u))
multiple_of u m n hu e =
    let p = multiple_is u m n e in
    let whole : n ≡ u * (n / u) = omega (arith, div-add-mod n u, p.2) in
    let least : 1 ≤ n / u = (le-div_iff_mul-le hu).1 (omega (arith, le_of_pos_multiple (n / u) p.0 whole)) in
    let most : n / u ≤ m / u = (le-div_iff_mul-le hu).1 (omega (arith, p.1)) in
    Memᴰ.cast whole (run_mem (λ j. u * j) 1 (m / u) (n / u) least (omega arith))
  where
    le_of_pos_multiple : (w : ℕ) → 0 < n → n ≡ u * w → u ≤ n
    le_of_pos_multiple zero h e = absurd (omega (arith, mul-zero u))
    le_of_pos_multiple (suc w) h e = omega (arith, mul-suc u w)
