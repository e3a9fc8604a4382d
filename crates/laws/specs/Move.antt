-- A block moved by a rule, over any element. Interleaving gathers by L; deinterleaving scatters by L, which is to gather by M.
use Rattle.std.specs.Prelude.{◌≡◌, refl, ◌≢◌, List, [], ◌∷◌, ℕ, zero, suc, ◌≤◌, ◌<◌, length, set}
use Rattle.std.proofs.Common.{sym, ◌∙◌, subst, ⊎_elim, zero-add, eq-or-lt_of_le, le_of_suc-le-suc, arith, length-set, ext_get_or, get_or-set_same, get_or-set_other}
use Rattle.std.proofs.Math.Path.{ap}
use Rattle.std.proofs.Math.ListN.{get_or}
use Rattle.laws.specs.Run.{run, length_run, get_or_run, run_same}
use Rattle.laws.specs.Perm.{Perm, once}

module _ {A : Type 0} where
  -- an entry that is there needs no stand-in
  pub get_d_any : (xs : List A) (i : ℕ) (y z : A) → i < length xs → get_or xs i y ≡ get_or xs i z
  get_d_any [] i y z h = absurd (omega arith)
  get_d_any (x ∷ xs) zero y z h = refl
  get_d_any (x ∷ xs) (suc i) y z h = get_d_any xs i y z (omega arith)

  -- out[t] = in[f t] for t = 0 .. n - 1; z stands in for an entry that in lacks
  unfoldable pub gather : (ℕ → ℕ) → ℕ → A → List A → List A
  gather f n z xs = run (λ t. get_or xs (f t) z) 0 n

  pub length_gather : (f : ℕ → ℕ) (n : ℕ) (z : A) (xs : List A) → length (gather f n z xs) ≡ n
  unfolding gather
  length_gather f n z xs = length_run (λ t. get_or xs (f t) z) 0 n

  pub get_or_gather : (f : ℕ → ℕ) (n : ℕ) (z : A) (xs : List A) (t : ℕ) → t < n → get_or (gather f n z xs) t z ≡ get_or xs (f t) z
  unfolding gather
  get_or_gather f n z xs t h = get_or_run (λ t. get_or xs (f t) z) 0 n t z h ∙ ap (λ (x : ℕ). get_or xs (f x) z) (zero-add t)

  pub gather_same : (f g : ℕ → ℕ) (n : ℕ) (z : A) (xs : List A) → ((t : ℕ) → t < n → f t ≡ g t) → gather f n z xs ≡ gather g n z xs
  unfolding gather
  gather_same f g n z xs e =
      run_same (λ t. get_or xs (f t) z) (λ t. get_or xs (g t) z) 0 n (λ t h. ap (λ (k : ℕ). get_or xs k z) (e t (omega arith)))

  -- z is never read where every address is inside
  pub gather_any : (f : ℕ → ℕ) (n : ℕ) (y z : A) (xs : List A) → ((t : ℕ) → t < n → f t < length xs) → gather f n y xs ≡ gather f n z xs
  unfolding gather
  gather_any f n y z xs h = run_same (λ t. get_or xs (f t) y) (λ t. get_or xs (f t) z) 0 n (λ t l. get_d_any xs (f t) y z (h t (omega arith)))

  -- there and back: to gather by l and then by m changes nothing
  pub back : {n : ℕ} {l m : ℕ → ℕ} → Perm n l m → (z : A) (xs : List A) → length xs ≡ n → gather m n z (gather l n z xs) ≡ xs
  back {n} {l} {m} p z xs e =
      ext_get_or z (gather m n z (gather l n z xs)) xs (length_gather m n z (gather l n z xs) ∙ sym e)
      (λ i h. at i (subst (λ (x : ℕ). i < x) (length_gather m n z (gather l n z xs)) h))
    where
      at : (i : ℕ) → i < n → get_or (gather m n z (gather l n z xs)) i z ≡ get_or xs i z
      at i h =
          get_or_gather m n z (gather l n z xs) i h
          ∙ get_or_gather l n z xs (m i) (p.m_below i h)
          ∙ ap (λ (x : ℕ). get_or xs x z) (p.l_of_m i h)

  -- out[f t] = in[t] for t = 0 .. n - 1, over what out was
  abbrev pub scatter : (ℕ → ℕ) → ℕ → A → List A → List A → List A
  scatter f zero z xs out = out
  scatter f (suc n) z xs out = set (scatter f n z xs out) (f n) (get_or xs n z)

  pub length_scatter : (f : ℕ → ℕ) (n : ℕ) (z : A) (xs out : List A) → length (scatter f n z xs out) ≡ length out
  length_scatter f zero z xs out = refl
  length_scatter f (suc n) z xs out = length-set (scatter f n z xs out) (f n) (get_or xs n z) ∙ length_scatter f n z xs out

  pub scatter_same : (f g : ℕ → ℕ) (n : ℕ) (z : A) (xs out : List A) → ((t : ℕ) → t < n → f t ≡ g t) → scatter f n z xs out ≡ scatter g n z xs out
  scatter_same f g zero z xs out e = refl
  scatter_same f g (suc n) z xs out e =
      ap (λ (l : List A). set l (f n) (get_or xs n z)) (scatter_same f g n z xs out (λ t h. e t (omega arith)))
      ∙ ap (λ (k : ℕ). set (scatter g n z xs out) k (get_or xs n z)) (e n (omega arith))

  pub scatter_any : (f : ℕ → ℕ) (n : ℕ) (y z : A) (xs out : List A) → n ≤ length xs → scatter f n y xs out ≡ scatter f n z xs out
  scatter_any f zero y z xs out h = refl
  scatter_any f (suc n) y z xs out h =
      ap (λ (l : List A). set l (f n) (get_or xs n y)) (scatter_any f n y z xs out (omega arith))
      ∙ ap (λ (v : A). set (scatter f n z xs out) (f n) v) (get_d_any xs n y z (omega arith))

  -- a place that is not met is as it was
  pub unmet : (f : ℕ → ℕ) (n : ℕ) (z : A) (xs out : List A) (k : ℕ) → ((t : ℕ) → t < n → k ≢ f t) → get_or (scatter f n z xs out) k z ≡ get_or out k z
  unmet f zero z xs out k h = refl
  unmet f (suc n) z xs out k h =
      get_or-set_other (scatter f n z xs out) (f n) k (get_or xs n z) z (h n (omega arith)) ∙ unmet f n z xs out k (λ t l. h t (omega arith))

  -- to scatter by l is to gather by m, whatever stood in the output
  module _ {n : ℕ} {l m : ℕ → ℕ} (p : Perm n l m) (z : A) (xs out : List A) (e : length out ≡ n) where
    -- the first j are in their places
    placed : (j : ℕ) → j ≤ n → (t : ℕ) → t < j → get_or (scatter l j z xs out) (l t) z ≡ get_or xs t z
    placed zero hj t ht = absurd (omega arith)
    placed (suc j) hj t ht =
        ⊎_elim
        (λ q. ap (λ (x : ℕ). get_or (scatter l (suc j) z xs out) (l x) z) q
        ∙ get_or-set_same (scatter l j z xs out) (l j) (get_or xs j z) z
        (subst (λ (x : ℕ). l j < x) (sym (length_scatter l j z xs out ∙ e)) (p.l_below j hj))
        ∙ ap (λ (x : ℕ). get_or xs x z) (sym q))
        (λ q. get_or-set_other (scatter l j z xs out) (l j) (l t) (get_or xs j z) z (differ q)
        ∙ placed j (omega arith) t q)
        (eq-or-lt_of_le (le_of_suc-le-suc ht))
      where
        differ : t < j → l t ≢ l j
        differ q w = clash (once p t j (omega arith) (omega arith) w)
          where
            clash : t ≡ j → ⊥
            clash v = omega arith

    pub scatter_is : scatter l n z xs out ≡ gather m n z xs
    scatter_is =
        ext_get_or z (scatter l n z xs out) (gather m n z xs)
        (length_scatter l n z xs out ∙ e ∙ sym (length_gather m n z xs))
        (λ i h. at i (subst (λ (x : ℕ). i < x) (length_scatter l n z xs out ∙ e) h))
      where
        at : (i : ℕ) → i < n → get_or (scatter l n z xs out) i z ≡ get_or (gather m n z xs) i z
        at i h =
            ap (λ (x : ℕ). get_or (scatter l n z xs out) x z) (sym (p.l_of_m i h))
            ∙ placed n (omega arith) (m i) (p.m_below i h)
            ∙ sym (get_or_gather m n z xs i h)
