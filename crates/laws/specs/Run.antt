-- Lists given by a rule: f at a, a + 1, .., n of them. Over any element.
use Rattle.std.specs.Prelude.{◌≡◌, refl, ℕ, zero, suc, min, ◌+◌, ◌-◌, ◌≤◌, ◌<◌, length, get_or, take, drop}
use Rattle.std.proofs.Common.{sym, ap, ap₂, ◌∙◌, subst, ⊎_elim, add-zero, add-suc, suc-add, not-suc-le-zero, le_of_suc-le-suc, zero-add, eq-or-lt_of_le, arith, take-append-drop, ext_get_or}
use mathlib.Core.List.Memᴰ
use mathlib.Core.List.{List, [], ◌∷◌, ◌++◌, Memᴰ}
use Rattle.std.proofs.Math.Nat.{suc-sub-suc, sub-zero}

module _ {A : Type 0} where
  abbrev pub run : (ℕ → A) → ℕ → ℕ → List A
  run f a zero = []
  run f a (suc n) = f a ∷ run f (suc a) n

  pub length_run : (f : ℕ → A) (a n : ℕ) → length (run f a n) ≡ n
  length_run f a zero = refl
  length_run f a (suc n) = ap suc (length_run f (suc a) n)

  pub run_snoc : (f : ℕ → A) (a n : ℕ) → run f a (suc n) ≡ run f a n ++ (f (a + n) ∷ [])
  run_snoc f a zero = ap (λ (x : ℕ). f x ∷ []) (sym (add-zero a))
  run_snoc f a (suc n) =
      ap (λ (l : List A). f a ∷ l) (run_snoc f (suc a) n)
      ∙ ap (λ (x : ℕ). f a ∷ (run f (suc a) n ++ (f x ∷ []))) (suc-add a n ∙ sym (add-suc a n))

  pub get_or_run : (f : ℕ → A) (a n i : ℕ) (z : A) → i < n → get_or (run f a n) i z ≡ f (a + i)
  get_or_run f a zero i z h = absurd (not-suc-le-zero h)
  get_or_run f a (suc n) zero z h = ap f (sym (add-zero a))
  get_or_run f a (suc n) (suc i) z h =
      get_or_run f (suc a) n i z (le_of_suc-le-suc h) ∙ ap f (suc-add a i ∙ sym (add-suc a i))

  -- its first k, and what is behind them
  pub take_run : (f : ℕ → A) (a n k : ℕ) → take k (run f a n) ≡ run f a (min k n)
  take_run f a zero zero = refl
  take_run f a zero (suc k) = ap (run f a) (let e : 0 ≡ min (suc k) 0 = omega arith in e)
  take_run f a (suc n) zero = ap (run f a) (let e : 0 ≡ min 0 (suc n) = omega arith in e)
  take_run f a (suc n) (suc k) =
      ap (λ (l : List A). f a ∷ l) (take_run f (suc a) n k) ∙ ap (run f a) (let e : suc (min k n) ≡ min (suc k) (suc n) = omega arith in e)

  pub drop_run : (f : ℕ → A) (a n k : ℕ) → drop k (run f a n) ≡ run f (a + k) (n - k)
  drop_run f a n zero = rw (add-zero, sub-zero)
  drop_run f a zero (suc k) = ap (run f (a + suc k)) (let e : 0 ≡ 0 - suc k = omega arith in e)
  drop_run f a (suc n) (suc k) = drop_run f (suc a) n k ∙ rw (suc-add, add-suc, suc-sub-suc)

  -- two rules that agree place by place, from whatever they begin at
  pub run_moved : (f g : ℕ → A) (a b n : ℕ) → ((i : ℕ) → i < n → f (a + i) ≡ g (b + i)) → run f a n ≡ run g b n
  run_moved f g a b zero e = refl
  run_moved f g a b (suc n) e =
      ap (λ (x : A). x ∷ run f (suc a) n) (ap f (sym (add-zero a)) ∙ e 0 (omega arith) ∙ ap g (add-zero b))
      ∙ ap (λ (l : List A). g b ∷ l) (run_moved f g (suc a) (suc b) n
      (λ i h. ap f (suc-add a i ∙ sym (add-suc a i)) ∙ e (suc i) (omega arith) ∙ ap g (add-suc b i ∙ sym (suc-add b i))))

  -- two that agree
  pub run_same : (f g : ℕ → A) (a n : ℕ) → ((i : ℕ) → i < a + n → f i ≡ g i) → run f a n ≡ run g a n
  run_same f g a n e = run_moved f g a a n (λ i h. e (a + i) (omega arith))

  -- in two pieces, the first of which is k long
  pub run_cut : (f : ℕ → A) (a n k : ℕ) → k ≤ n → run f a n ≡ run f a k ++ run f (a + k) (n - k)
  run_cut f a n k h =
      sym (take-append-drop k (run f a n))
      ∙ ap₂ ◌++◌ (take_run f a n k ∙ ap (run f a) (let e : min k n ≡ k = omega arith in e)) (drop_run f a n k)

  -- a list by its entries
  pub run_get_or : (l : List A) (z : A) → run (λ i. get_or l i z) 0 (length l) ≡ l
  run_get_or l z =
      ext_get_or z (run (λ i. get_or l i z) 0 (length l)) l (length_run (λ i. get_or l i z) 0 (length l))
      (λ i h. get_or_run (λ i. get_or l i z) 0 (length l) i z (subst (λ (n : ℕ). i < n) (length_run (λ i. get_or l i z) 0 (length l)) h)
      ∙ ap (λ (k : ℕ). get_or l k z) (zero-add i))

  -- what stands in such a list: the rule at one of its numbers, and no other
  pub mem_run : (f : ℕ → A) (a n : ℕ) {x : A} → Memᴰ x (run f a n) → (j : ℕ) × (a ≤ j) × (j < a + n) × (x ≡ f j)
  mem_run f a zero m = absurd (Memᴰ.not-nil m)
  mem_run f a (suc n) {x} m =
      ⊎_elim (λ e. (a, omega arith, omega arith, e))
      (λ r. let q = mem_run f (suc a) n r in (q.0, omega (arith, q.1), omega (arith, q.2), q.3))
      (Memᴰ.cases_cons m)

  pub run_mem : (f : ℕ → A) (a n j : ℕ) → a ≤ j → j < a + n → Memᴰ (f j) (run f a n)
  run_mem f a zero j h l = absurd (omega arith)
  run_mem f a (suc n) j h l =
      ⊎_elim (λ e. Memᴰ.head (ap f (sym e))) (λ k. Memᴰ.tail (run_mem f (suc a) n j k (omega arith))) (eq-or-lt_of_le h)

  -- an entry of a list stands in it
  pub mem_at : (l : List A) (z : A) (k : ℕ) → k < length l → Memᴰ (get_or l k z) l
  mem_at [] z k h = absurd (not-suc-le-zero h)
  mem_at (x ∷ xs) z zero h = Memᴰ.head refl
  mem_at (x ∷ xs) z (suc k) h = Memᴰ.tail (mem_at xs z k (le_of_suc-le-suc h))
