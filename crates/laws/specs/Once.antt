-- A one-to-one map of the numbers below n into themselves has each value once, so among the entries that pass a test each number that
-- passes stands exactly once. The test `inside k` keeps the numbers below k.
use Prim.Native.Nat.{ℕ, zero, suc, ◌+◌, ◌≤◌, ◌<◌}
use Rattle.std.specs.Prelude.{Bool, List, [], ◌∷◌, ◌≡◌, length}
use Rattle.std.proofs.Math.Bool.{true, false, cond}
use Rattle.std.proofs.lemmas.Bool.{false≢true}
use Rattle.std.proofs.Math.Path.{refl, ap}
use Rattle.std.proofs.Common.{sym, ◌∙◌, subst, ⊎_elim, eq-or-lt_of_le, le_of_suc-le-suc, lt-ltb, ltb-true, eqb-true, eq-eqb, ne_eqb}
use native.Mathlib.Omega.{arith}
use Rattle.std.proofs.Math.Dec.{ltb, eqb}
use Rattle.laws.specs.Run.{run, length_run}
use Rattle.laws.specs.Keep.{keep}

-- an entry is inside where it is below k; the others are padding
abbrev pub inside : ℕ → ℕ → Bool
inside k a = ltb a k

-- how often a stands in a list
unfoldable pub count : ℕ → List ℕ → ℕ
count a [] = 0
count a (x ∷ xs) =
    let rest = count a xs in
    let more = suc rest in
    cond (eqb a x) more rest

-- every entry is below m
unfoldable pub Below : ℕ → List ℕ → Type 0
Below m [] = Unit {0}
Below m (x ∷ xs) = (x < m) × Below m xs

-- sums of counts

sum : (ℕ → ℕ) → ℕ → ℕ
sum g zero = 0
sum g (suc m) = g m + sum g m

-- one more at y
more : ℕ → (ℕ → ℕ) → ℕ → ℕ
more y g a = cond (eqb a y) (suc (g a)) (g a)

sum_same : (y : ℕ) (g : ℕ → ℕ) (m : ℕ) → m ≤ y → sum (more y g) m ≡ sum g m
unfolding sum more
sum_same y g zero h = refl
sum_same y g (suc m) h = rw (ne_eqb m y (λ e. omega arith), sum_same y g m (omega arith))

sum_more : (y : ℕ) (g : ℕ → ℕ) (m : ℕ) → y < m → sum (more y g) m ≡ suc (sum g m)
unfolding sum more
sum_more y g zero h = omega arith
sum_more y g (suc m) h = ⊎_elim last (λ l. earlier l (sum_more y g m l)) (eq-or-lt_of_le (le_of_suc-le-suc h))
  where
    last : y ≡ m → more y g m + sum (more y g) m ≡ suc (g m + sum g m)
    last e = let s = sum_same y g m (omega arith) in rw (eq-eqb m y (sym e)) (omega arith)

    earlier : y < m → sum (more y g) m ≡ suc (sum g m) → more y g m + sum (more y g) m ≡ suc (g m + sum g m)
    earlier l s = rw (ne_eqb m y (λ e. omega arith)) (omega arith)

sum_zero : (m : ℕ) → sum (λ a. 0) m ≡ 0
unfolding sum
sum_zero zero = refl
sum_zero (suc m) = let s = sum_zero m in omega arith

-- the numbers below m stand in a list of them as often as the list is long
sum_count : (m : ℕ) (l : List ℕ) → Below m l → sum (λ a. count a l) m ≡ length l
unfolding Below count more
sum_count m [] b = sum_zero m
sum_count m (x ∷ xs) b = sum_more x (λ a. count a xs) m b.0 ∙ ap suc (sum_count m xs b.1)

-- m numbers of at most 1 have a sum of at most m
sum_le : (g : ℕ → ℕ) (m : ℕ) → ((a : ℕ) → a < m → g a ≤ 1) → sum g m ≤ m
unfolding sum
sum_le g zero h = omega arith
sum_le g (suc m) h = omega (arith, h m (omega arith), sum_le g m (λ a l. h a (omega arith)))

-- and where the sum is m, each is 1
sum_full : (g : ℕ → ℕ) (m : ℕ) → ((a : ℕ) → a < m → g a ≤ 1) → sum g m ≡ m → (a : ℕ) → a < m → g a ≡ 1
unfolding sum
sum_full g zero h e a l = omega arith
sum_full g (suc m) h e a l =
    ⊎_elim (λ (q : a ≡ m). subst (λ (x : ℕ). g x ≡ 1) (sym q) (omega (arith, t, u)))
    (λ q. sum_full g m (λ b k. h b (omega arith)) (omega (arith, t, u)) a q)
    (eq-or-lt_of_le (le_of_suc-le-suc l))
  where
    t : g m ≤ 1
    t = h m (omega arith)

    u : sum g m ≤ m
    u = sum_le g m (λ b k. h b (omega arith))

-- and where each is 1, the sum is m
sum_ones : (g : ℕ → ℕ) (m : ℕ) → ((a : ℕ) → a < m → g a ≡ 1) → sum g m ≡ m
unfolding sum
sum_ones g zero h = refl
sum_ones g (suc m) h = omega (arith, h m (omega arith), sum_ones g m (λ a l. h a (omega arith)))

module _ (f : ℕ → ℕ) where
  -- every entry that is kept is inside
  pub keep_below : (k c n : ℕ) → Below k (keep f (inside k) c n)
  unfolding Below keep
  keep_below k c zero = tt
  keep_below k c (suc n) = go (ltb (f c) k) refl (keep_below k (suc c) n)
    where
      go : (b : Bool) → ltb (f c) k ≡ b → Below k (keep f (inside k) (suc c) n)
          → Below k (cond b (f c ∷ keep f (inside k) (suc c) n) (keep f (inside k) (suc c) n))
      go true e r = (ltb-true (f c) k e, r)
      go false e r = r

  run_below : (m c n : ℕ) → ((x : ℕ) → c ≤ x → x < c + n → f x < m) → Below m (run f c n)
  unfolding Below
  run_below m c zero h = tt
  run_below m c (suc n) h = (h c (omega arith) (omega arith), run_below m (suc c) n (λ x l o. h x (omega arith) (omega arith)))

  -- a value that no cell has is not there
  count_none : (a c n : ℕ) → ((x : ℕ) → c ≤ x → x < c + n → a ≡ f x → ⊥) → count a (run f c n) ≡ 0
  unfolding count
  count_none a c zero h = refl
  count_none a c (suc n) h =
      rw (ne_eqb a (f c) (h c (omega arith) (omega arith))) (count_none a (suc c) n (λ x l m. h x (omega arith) (omega arith)))

  -- the cells from c on, n of them, have different values
  Apart : ℕ → ℕ → Type 0
  Apart c n = (x y : ℕ) → c ≤ x → x < y → y < c + n → f x ≡ f y → ⊥

  count_le : (a c n : ℕ) → Apart c n → count a (run f c n) ≤ 1
  unfolding count Apart
  count_le a c zero h = omega arith
  count_le a c (suc n) h = go (eqb a (f c)) refl (count_le a (suc c) n (λ x y l m o. h x y (omega arith) m (omega arith)))
    where
      go : (t : Bool) → eqb a (f c) ≡ t → count a (run f (suc c) n) ≤ 1
          → cond t (suc (count a (run f (suc c) n))) (count a (run f (suc c) n)) ≤ 1
      go false e r = r
      go true e r =
          rw (count_none a (suc c) n (λ x l m q. h c x (omega arith) (omega arith) (omega arith) (sym (eqb-true a (f c) e) ∙ q))) (omega arith)

  -- a number that passes stands as often among the entries kept as among all of them
  count_kept : (ok : ℕ → Bool) (a c n : ℕ) → ok a ≡ true → count a (keep f ok c n) ≡ count a (run f c n)
  unfolding count keep
  count_kept ok a c zero p = refl
  count_kept ok a c (suc n) p = go (ok (f c)) refl (count_kept ok a (suc c) n p)
    where
      go : (b : Bool) → ok (f c) ≡ b → count a (keep f ok (suc c) n) ≡ count a (run f (suc c) n)
          → count a (cond b (f c ∷ keep f ok (suc c) n) (keep f ok (suc c) n)) ≡ count a (f c ∷ run f (suc c) n)
      go true e r = rw r
      go false e r = rw (ne_eqb a (f c) (λ q. absurd (false≢true (sym e ∙ ap ok (sym q) ∙ p)))) r

  module _ (n : ℕ) (range : (x : ℕ) → x < n → f x < n) (apart : (x y : ℕ) → x < n → y < n → f x ≡ f y → x ≡ y) where
    once_all : (a : ℕ) → a < n → count a (run f 0 n) ≡ 1
    unfolding Apart
    once_all =
        sum_full (λ a. count a (run f 0 n)) n
        (λ a l. count_le a 0 n (λ x y l m o q. omega (arith, apart x y (omega arith) (omega arith) q)))
        (sum_count n (run f 0 n) (run_below n 0 n (λ x l m. range x (omega arith))) ∙ length_run f 0 n)

    -- each number below n that passes stands exactly once in the list of those that pass
    pub once : (ok : ℕ → Bool) (a : ℕ) → a < n → ok a ≡ true → count a (keep f ok 0 n) ≡ 1
    once ok a l p = count_kept ok a 0 n p ∙ once_all a l

    -- the list of those below k has k entries
    pub kept : (k : ℕ) → k ≤ n → length (keep f (inside k) 0 n) ≡ k
    kept k h =
        sym (sum_count k (keep f (inside k) 0 n) (keep_below k 0 n))
        ∙ sum_ones (λ a. count a (keep f (inside k) 0 n)) k (λ a l. once (inside k) a (omega arith) (lt-ltb a k l))
