-- Those of a list that pass a test; the least number of a list; and the least number from n on that has a property, or 0 where there is none: there is
-- one such number, whichever way it is found, and over a list of positive numbers it is the least of those that are not below n.
use Rattle.std.specs.Prelude.{◌≡◌, refl, Bool, true, false, cond, ◌⊎◌, ◌↔◌, ℕ, zero, suc, min, ◌≤◌, ◌<◌, leb}
use Rattle.std.proofs.Common.{sym, ap, ◌∙◌, true≢false, inl, inr, ⊎_elim, arith, leb-true, leb-false, le-leb}
use mathlib.Core.List.Memᴰ
use mathlib.Core.List.{List, [], ◌∷◌, Memᴰ}

module _ {A : Type 0} (test : A → Bool) where
  -- those of a list that pass a test
  abbrev pub those : List A → List A
  those [] = []
  those (x ∷ xs) = cond (test x) (x ∷ those xs) (those xs)

  pub in_those : (xs : List A) {a : A} → Memᴰ a xs → test a ≡ true → Memᴰ a (those xs)
  in_those [] m e = absurd (Memᴰ.not-nil m)
  in_those (x ∷ xs) {a} m e = go (test x) refl (Memᴰ.cases_cons m) (λ l. in_those xs l e)
    where
      go : (b : Bool) → test x ≡ b → (a ≡ x) ⊎ Memᴰ a xs → (Memᴰ a xs → Memᴰ a (those xs)) → Memᴰ a (cond b (x ∷ those xs) (those xs))
      go true q (inl h) r = Memᴰ.head h
      go true q (inr l) r = Memᴰ.tail (r l)
      go false q (inl h) r = absurd (true≢false (sym e ∙ ap test h ∙ q))
      go false q (inr l) r = r l

  pub of_those : (xs : List A) {a : A} → Memᴰ a (those xs) → Memᴰ a xs × (test a ≡ true)
  of_those [] m = absurd (Memᴰ.not-nil m)
  of_those (x ∷ xs) {a} m = go (test x) refl m (of_those xs)
    where
      go : (b : Bool) → test x ≡ b → Memᴰ a (cond b (x ∷ those xs) (those xs)) → (Memᴰ a (those xs) → Memᴰ a xs × (test a ≡ true))
          → Memᴰ a (x ∷ xs) × (test a ≡ true)
      go true q m r =
          ⊎_elim (λ h. (Memᴰ.head h, ap test h ∙ q)) (λ l. let s = r l in (Memᴰ.tail s.0, s.1)) (Memᴰ.cases_cons m)
      go false q m r = let s = r m in (Memᴰ.tail s.0, s.1)

-- the least number of a list; of no number it is 0
abbrev pub least : List ℕ → ℕ
least [] = 0
least (x ∷ []) = x
least (x ∷ y ∷ ys) = min x (least (y ∷ ys))

-- it stands in the list, and none there is less
least_in : (x : ℕ) (xs : List ℕ) → Memᴰ (least (x ∷ xs)) (x ∷ xs)
least_in x [] = Memᴰ.head refl
least_in x (y ∷ ys) = go (leb x (least (y ∷ ys))) refl (least_in y ys)
  where
    go : (b : Bool) → leb x (least (y ∷ ys)) ≡ b → Memᴰ (least (y ∷ ys)) (y ∷ ys) → Memᴰ (min x (least (y ∷ ys))) (x ∷ y ∷ ys)
    go true q m = let e : min x (least (y ∷ ys)) ≡ x = omega (arith, leb-true x (least (y ∷ ys)) q) in Memᴰ.head e
    go false q m = Memᴰ.tail (Memᴰ.cast (omega (arith, leb-false x (least (y ∷ ys)) q)) m)

least_below : (xs : List ℕ) {a : ℕ} → Memᴰ a xs → least xs ≤ a
least_below [] m = absurd (Memᴰ.not-nil m)
least_below (x ∷ []) m = ⊎_elim (λ h. omega arith) (λ l. absurd (Memᴰ.not-nil l)) (Memᴰ.cases_cons m)
least_below (x ∷ y ∷ ys) {a} m = ⊎_elim (λ h. omega arith) (λ l. let r = least_below (y ∷ ys) l in omega arith) (Memᴰ.cases_cons m)

-- r is the least number from n on that has a property, or 0 if there is none
pub record LeastFrom (P : ℕ → Type 0) (n r : ℕ) : Type 0 where
  pub has_it : 0 < r → P r
  pub not_below : 0 < r → n ≤ r
  pub none_between : (m : ℕ) → P m → n ≤ m → (0 < r) × (r ≤ m)

-- a number that has it, is not below n and has none before it is the one; and where each that has it is below n, there is none
pub least_found : {P : ℕ → Type 0} {n r : ℕ} → 0 < r → P r → n ≤ r → ((m : ℕ) → P m → n ≤ m → r ≤ m) → LeastFrom P n r
least_found pos p lo none = record { has_it = λ h. p; not_below = λ h. lo; none_between = λ m q h. (pos, none m q h) }

pub least_nowhere : {P : ℕ → Type 0} {n : ℕ} → ((m : ℕ) → P m → m < n) → LeastFrom P n 0
least_nowhere {P} {n} none = record {
  has_it = λ h. absurd (omega (arith, h));
  not_below = λ h. absurd (omega (arith, h));
  none_between = λ m q h. absurd (omega (arith, none m q));
}

-- there is one such number ..
module _ {P : ℕ → Type 0} {n r t : ℕ} (a : LeastFrom P n r) (b : LeastFrom P n t) where
  -- where the one is found, so is the other, and not behind it
  under : 0 < r → (0 < t) × (t ≤ r)
  under h = b.none_between r (a.has_it h) (a.not_below h)

pub one_least : {P : ℕ → Type 0} {n r t : ℕ} → LeastFrom P n r → LeastFrom P n t → r ≡ t
one_least {r = r} {t = t} a b = go r t (under a b) (under b a)
  where
    go : (r t : ℕ) → (0 < r → (0 < t) × (t ≤ r)) → (0 < t → (0 < r) × (r ≤ t)) → r ≡ t
    go zero zero f g = refl
    go zero (suc t) f g = absurd (omega (arith, (g (omega arith)).0))
    go (suc r) zero f g = absurd (omega (arith, (f (omega arith)).0))
    go (suc r) (suc t) f g = omega (arith, (f (omega arith)).1, (g (omega arith)).1)

-- .. which is that of any property that says the same ..
pub least_same : {P Q : ℕ → Type 0} {n r : ℕ} → ((m : ℕ) → P m ↔ Q m) → LeastFrom P n r → LeastFrom Q n r
least_same {n = n} {r = r} same l = record {
  has_it = λ h. (same r).0 (l.has_it h);
  not_below = l.not_below;
  none_between = λ m q. l.none_between m ((same m).1 q);
}

-- .. and is 0 exactly if nothing from n on has the property
pub least_none : {P : ℕ → Type 0} {n r : ℕ} → LeastFrom P n r → (r ≡ 0) ↔ ((m : ℕ) → P m → m < n)
least_none {P} {n} {r} l = (
  λ e m p. go m p (leb n m) refl e,
  λ none. here none (leb r 0) refl,
)
  where
    go : (m : ℕ) → P m → (b : Bool) → leb n m ≡ b → r ≡ 0 → m < n
    go m p true q e = absurd (omega (arith, (l.none_between m p (leb-true n m q)).0))
    go m p false q e = leb-false n m q

    here : ((m : ℕ) → P m → m < n) → (b : Bool) → leb r 0 ≡ b → r ≡ 0
    here none true q = omega (arith, leb-true r 0 q)
    here none false q =
        let pos = leb-false r 0 q in
        absurd (omega (arith, none r (l.has_it pos), l.not_below pos))

-- over a list of positive numbers: the least of those that are not below n
pub least_those : (xs : List ℕ) (n : ℕ) → ((m : ℕ) → Memᴰ m xs → 0 < m) → LeastFrom (λ m. Memᴰ m xs) n (least (those (leb n) xs))
least_those xs n pos = go (those (leb n) xs) (λ m. of_those (leb n) xs) (λ m. in_those (leb n) xs)
  where
    go : (ys : List ℕ) → ((m : ℕ) → Memᴰ m ys → Memᴰ m xs × (leb n m ≡ true)) → ((m : ℕ) → Memᴰ m xs → leb n m ≡ true → Memᴰ m ys)
        → LeastFrom (λ m. Memᴰ m xs) n (least ys)
    go [] out into = least_nowhere (λ m p. below m p (leb n m) refl)
      where
        below : (m : ℕ) → Memᴰ m xs → (b : Bool) → leb n m ≡ b → m < n
        below m p true q = absurd (Memᴰ.not-nil (into m p q))
        below m p false q = leb-false n m q
    go (y ∷ ys) out into =
        let r = least (y ∷ ys) in
        let found = out r (least_in y ys) in
        least_found (pos r found.0) found.0 (leb-true n r found.1) (λ m p h. least_below (y ∷ ys) (into m p (le-leb n m h)))
