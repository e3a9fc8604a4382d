-- A rule below n is one-to-one, or two places share a value: one of the two holds, and they are found. One that is one-to-one, and keeps
-- below n, is undone by the place of a value in its list. Rests on Position and Bare.
use Rattle.std.specs.Prelude.{ℕ, zero, suc, ◌+◌, ◌-◌, ◌≤◌, ◌<◌, Bool, true, false, ◌≡◌, refl, ◌⊎◌, eqb, get_or}
use Rattle.std.proofs.lemmas.Bool.{false≢true, eqb-false}
use Rattle.std.proofs.Common.{sym, ap, ◌∙◌, inl, inr, ⊎_elim, eq-or-lt_of_le, zero-add, arith, eqb-true, lt-ltb}
use Rattle.std.proofs.Math.Decide.{dec_le}
use Rattle.laws.specs.Perm.{Perm}
use Rattle.laws.specs.Run.{run, get_or_run}
use Rattle.laws.specs.Once.{inside}
use Rattle.laws.specs.Keep.{keep}
use Rattle.laws.specs.Bare.{keep_bare}
use Rattle.laws.specs.Position.{position, kept_perm}

module _ (f : ℕ → ℕ) where
  -- different places below n have different values
  abbrev pub OneToOne : ℕ → Type 0
  OneToOne n = (x y : ℕ) → x < n → y < n → f x ≡ f y → x ≡ y

  -- it is enough to look at a place and one d further on
  pub from_distance : (n : ℕ) → ((x d : ℕ) → x + d < n → f x ≡ f (x + d) → d ≡ 0) → OneToOne n
  from_distance n none x y h l e = go (dec_le x y)
    where
      go : Dec (x ≤ y) → x ≡ y
      go (yes o) = let w : y ≡ x + (y - x) = omega arith in omega (arith, none x (y - x) (omega arith) (e ∙ ap f w))
      go (no o) =
          let p : ¬ (x ≤ y) = o in
          let w : x ≡ y + (x - y) = omega arith in
          omega (arith, none y (x - y) (omega arith) (sym e ∙ ap f w))

  -- two places below n have the same value
  pub record Shared (n : ℕ) : Type 0 where
    pub first : ℕ
    pub second : ℕ
    pub apart : first < second
    pub below : second < n
    pub same : f first ≡ f second

  pub not_shared : {n : ℕ} → OneToOne n → Shared n → ⊥
  not_shared o s =
      let e = o s.first s.second (let a = s.apart in let b = s.below in omega arith) s.below s.same in
      omega (arith, s.apart)

  -- a is the value of one of the places below n, or of none
  find : (a n : ℕ) → ((x : ℕ) × (x < n) × (f x ≡ a)) ⊎ ((x : ℕ) → x < n → f x ≡ a → ⊥)
  find a zero = inr (λ x h e. absurd (omega arith))
  find a (suc n) = go (eqb (f n) a) refl (find a n)
    where
      go : (b : Bool) → eqb (f n) a ≡ b → ((x : ℕ) × (x < n) × (f x ≡ a)) ⊎ ((x : ℕ) → x < n → f x ≡ a → ⊥)
          → ((x : ℕ) × (x < suc n) × (f x ≡ a)) ⊎ ((x : ℕ) → x < suc n → f x ≡ a → ⊥)
      go true e r = inl (n, omega arith, eqb-true (f n) a e)
      go false e (inl r) = inl (r.0, omega (arith, r.1), r.2)
      go false e (inr r) =
          inr (λ x h q. ⊎_elim (λ (w : x ≡ n). eqb-false (f n) a e (sym (ap f w) ∙ q)) (λ w. r x w q)
          (eq-or-lt_of_le {n = x} {m = n} (omega arith)))

  pub apart_or_shared : (n : ℕ) → OneToOne n ⊎ Shared n
  apart_or_shared zero = inl (λ x y h l e. absurd (omega arith))
  apart_or_shared (suc n) = go (apart_or_shared n) (find (f n) n)
    where
      last : (x : ℕ) → x < suc n → (x ≡ n) ⊎ (x < n)
      last x h = eq-or-lt_of_le {n = x} {m = n} (omega arith)

      wider : OneToOne n → ((x : ℕ) → x < n → f x ≡ f n → ⊥) → OneToOne (suc n)
      wider o none x y h l e =
          ⊎_elim
          (λ (p : x ≡ n). ⊎_elim (λ (q : y ≡ n). p ∙ sym q) (λ q. absurd (none y q (sym e ∙ ap f p))) (last y l))
          (λ p. ⊎_elim (λ (q : y ≡ n). absurd (none x p (e ∙ ap f q))) (λ q. o x y p q e) (last y l)) (last x h)

      go : OneToOne n ⊎ Shared n → ((x : ℕ) × (x < n) × (f x ≡ f n)) ⊎ ((x : ℕ) → x < n → f x ≡ f n → ⊥) → OneToOne (suc n) ⊎ Shared (suc n)
      go (inr s) r =
          inr (record { first = s.first; second = s.second; apart = s.apart; below = let b = s.below in omega arith; same = s.same })
      go (inl o) (inl r) = inr (record { first = r.0; second = n; apart = r.1; below = omega arith; same = r.2 })
      go (inl o) (inr r) = inl (wider o r)

  -- a test that passes exactly where the rule is one-to-one fails exactly where two places share a value
  module _ (n : ℕ) (test : Bool) (enough : test ≡ true → OneToOne n) (needed : OneToOne n → test ≡ true) where
    pub failed_shared : test ≡ false → Shared n
    failed_shared e = ⊎_elim (λ o. absurd (false≢true (sym e ∙ needed o))) (λ s. s) (apart_or_shared n)

    pub shared_failed : Shared n → test ≡ false
    shared_failed s = go test refl
      where
        go : (b : Bool) → test ≡ b → test ≡ false
        go false e = e
        go true e = absurd (not_shared (enough e) s)

  -- the list of a rule has its values
  pub run_at : (n t : ℕ) → t < n → get_or (run f 0 n) t 0 ≡ f t
  run_at n t h = get_or_run f 0 n t 0 h ∙ ap f (zero-add t)

  -- a rule that is one-to-one below n and the place of a value in its list undo each other
  module _ (n : ℕ) (range : (x : ℕ) → x < n → f x < n) (o : OneToOne n) where
    all_kept : keep f (inside n) 0 n ≡ run f 0 n
    all_kept = keep_bare f (inside n) 0 n (λ x l h. lt-ltb (f x) n (range x (omega arith)))

    listed_perm : Perm n (λ t. get_or (run f 0 n) t 0) (λ a. position a (run f 0 n))
    listed_perm = rw all_kept at (kept_perm f n range o n (omega arith))

    pub run_perm : Perm n f (λ a. position a (run f 0 n))
    run_perm = record {
      l_below = range;
      m_below = listed_perm.m_below;
      l_of_m = λ k h. sym (run_at n (position k (run f 0 n)) (listed_perm.m_below k h)) ∙ listed_perm.l_of_m k h;
      m_of_l = λ t h. ap (λ (a : ℕ). position a (run f 0 n)) (sym (run_at n t h)) ∙ listed_perm.m_of_l t h;
    }
