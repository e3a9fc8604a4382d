-- A walk over cells writes the first entries that pass, as many as it has room for; the cells it examines are the entries written and
-- the padding passed; and in pieces it is the walk as a whole. For any rule and test.
use Prim.Native.Nat.{ℕ, zero, suc, ◌+◌, ◌-◌, ◌≤◌, ◌<◌}
use Rattle.std.specs.Prelude.{Bool, ◌≡◌}
use Rattle.std.proofs.Math.Bool.{true, false, cond}
use Rattle.std.proofs.Math.Logic.{⊎_elim}
use mathlib.Core.List.{List, [], ◌∷◌, ◌++◌, Memᴰ}
use Rattle.std.proofs.Math.Path.{refl, ap, sym}
use Rattle.std.proofs.Common.{◌∙◌, zero-add, add-suc, eq-or-lt_of_le}
use Rattle.std.proofs.Math.Nat.{suc-add, suc-sub-suc, sub-zero, add-zero}
use native.Mathlib.Omega.{arith}
use Rattle.std.proofs.Math.ListN.{length, take}
use Rattle.std.proofs.Math.Seq.{take-nil}
use Rattle.laws.specs.Keep.{keep, wrote, steps, padding}

module _ {A : Type 0} (f : ℕ → A) (ok : A → Bool) where
  -- every cell is kept or padding
  pub kept_or_padding : (c n : ℕ) → length (keep f ok c n) + padding f ok c n ≡ n
  unfolding keep padding
  kept_or_padding c zero = refl
  kept_or_padding c (suc n) = go (ok (f c)) (kept_or_padding (suc c) n)
    where
      go : (b : Bool) → length (keep f ok (suc c) n) + padding f ok (suc c) n ≡ n
          → length (cond b (f c ∷ keep f ok (suc c) n) (keep f ok (suc c) n)) + cond b (padding f ok (suc c) n) (suc (padding f ok (suc c) n)) ≡ suc n
      go true e = omega arith
      go false e = omega arith

  -- the entry of a cell that passes is kept
  pub keep_has : (c n x : ℕ) → c ≤ x → x < c + n → ok (f x) ≡ true → Memᴰ (f x) (keep f ok c n)
  unfolding keep
  keep_has c zero x l h e = absurd (omega arith)
  keep_has c (suc n) x l h e = ⊎_elim here (λ o. later (ok (f c)) (keep_has (suc c) n x o (omega arith) e)) (eq-or-lt_of_le l)
    where
      here : c ≡ x → Memᴰ (f x) (keep f ok c (suc n))
      here q = rw (let w : ok (f c) ≡ true = ap (λ (y : ℕ). ok (f y)) q ∙ e in w) (Memᴰ.head (ap f (sym q)))

      later : (b : Bool) → Memᴰ (f x) (keep f ok (suc c) n) → Memᴰ (f x) (cond b (f c ∷ keep f ok (suc c) n) (keep f ok (suc c) n))
      later true m = Memᴰ.tail m
      later false m = m

  -- the first m of the cells, and then the others
  pub keep_cut : (c m n : ℕ) → keep f ok c (m + n) ≡ keep f ok c m ++ keep f ok (c + m) n
  unfolding keep
  keep_cut c zero n = rw (zero-add, add-zero)
  keep_cut c (suc m) n = rw suc-add (go (ok (f c)) (keep_cut (suc c) m n ∙ rw (suc-add, add-suc)))
    where
      go : (b : Bool) → keep f ok (suc c) (m + n) ≡ keep f ok (suc c) m ++ keep f ok (c + suc m) n
          → cond b (f c ∷ keep f ok (suc c) (m + n)) (keep f ok (suc c) (m + n))
          ≡ cond b (f c ∷ keep f ok (suc c) m) (keep f ok (suc c) m) ++ keep f ok (c + suc m) n
      go true p = ap (λ (l : List A). f c ∷ l) p
      go false p = p

  -- a walk writes what the cells that it examines hold
  pub wrote_keep : (c n room : ℕ) → wrote f ok c n room ≡ keep f ok c (steps f ok c n room)
  unfolding wrote keep steps
  wrote_keep c zero room = refl
  wrote_keep c (suc n) zero = refl
  wrote_keep c (suc n) (suc room) = go (ok (f c)) refl (wrote_keep (suc c) n room) (wrote_keep (suc c) n (suc room))
    where
      go : (b : Bool) → ok (f c) ≡ b
          → wrote f ok (suc c) n room ≡ keep f ok (suc c) (steps f ok (suc c) n room)
          → wrote f ok (suc c) n (suc room) ≡ keep f ok (suc c) (steps f ok (suc c) n (suc room))
          → cond b (f c ∷ wrote f ok (suc c) n room) (wrote f ok (suc c) n (suc room))
          ≡ keep f ok c (cond b (suc (steps f ok (suc c) n room)) (suc (steps f ok (suc c) n (suc room))))
      go true e p q = rw (e, p)
      go false e p q = rw (e, q)

  -- so the cells examined are the entries written and the padding passed
  pub steps_are : (c n room : ℕ) → steps f ok c n room ≡ length (wrote f ok c n room) + padding f ok c (steps f ok c n room)
  steps_are c n room =
      sym (ap (λ (l : List A). length l + padding f ok c (steps f ok c n room)) (wrote_keep c n room) ∙ kept_or_padding c (steps f ok c n room))

  pub steps_le : (c n room : ℕ) → steps f ok c n room ≤ n
  unfolding steps
  steps_le c zero room = omega arith
  steps_le c (suc n) zero = omega arith
  steps_le c (suc n) (suc room) = go (ok (f c)) (steps_le (suc c) n room) (steps_le (suc c) n (suc room))
    where
      go : (b : Bool) → steps f ok (suc c) n room ≤ n → steps f ok (suc c) n (suc room) ≤ n
          → cond b (suc (steps f ok (suc c) n room)) (suc (steps f ok (suc c) n (suc room))) ≤ suc n
      go true p q = omega arith
      go false p q = omega arith

  -- the list of a walk: the first entries that pass, as many as there is room for
  pub wrote_take : (c n room : ℕ) → wrote f ok c n room ≡ take room (keep f ok c n)
  unfolding wrote keep
  wrote_take c zero room = sym (take-nil room)
  wrote_take c (suc n) zero = none (keep f ok c (suc n))
    where
      none : (l : List A) → [] ≡ take 0 l
      none [] = refl
      none (x ∷ xs) = refl
  wrote_take c (suc n) (suc room) = go (ok (f c)) (wrote_take (suc c) n room) (wrote_take (suc c) n (suc room))
    where
      go : (b : Bool) → wrote f ok (suc c) n room ≡ take room (keep f ok (suc c) n) → wrote f ok (suc c) n (suc room) ≡ take (suc room) (keep f ok (suc c) n)
          → cond b (f c ∷ wrote f ok (suc c) n room) (wrote f ok (suc c) n (suc room)) ≡ take (suc room) (cond b (f c ∷ keep f ok (suc c) n) (keep f ok (suc c) n))
      go true p q = ap (λ (l : List A). f c ∷ l) p
      go false p q = q

  -- with room for a and then b: a walk with room for a, and from there one with room for b
  pub cut : (c n a b : ℕ) → wrote f ok c n (a + b) ≡ wrote f ok c n a ++ wrote f ok (c + steps f ok c n a) (n - steps f ok c n a) b
  unfolding wrote steps
  cut c zero a b = refl
  cut c (suc n) zero b = rw (zero-add, add-zero, sub-zero)
  cut c (suc n) (suc a) b = rw suc-add (go (ok (f c)) (cut (suc c) n a b) (rw suc-add at (cut (suc c) n (suc a) b)))
    where
      go : (t : Bool)
          → wrote f ok (suc c) n (a + b) ≡ wrote f ok (suc c) n a ++ wrote f ok (suc c + steps f ok (suc c) n a) (n - steps f ok (suc c) n a) b
          → wrote f ok (suc c) n (suc (a + b)) ≡ wrote f ok (suc c) n (suc a) ++ wrote f ok (suc c + steps f ok (suc c) n (suc a)) (n - steps f ok (suc c) n (suc a)) b
          → cond t (f c ∷ wrote f ok (suc c) n (a + b)) (wrote f ok (suc c) n (suc (a + b)))
          ≡ cond t (f c ∷ wrote f ok (suc c) n a) (wrote f ok (suc c) n (suc a))
          ++ wrote f ok (c + cond t (suc (steps f ok (suc c) n a)) (suc (steps f ok (suc c) n (suc a))))
          (suc n - cond t (suc (steps f ok (suc c) n a)) (suc (steps f ok (suc c) n (suc a)))) b
      go true p q = rw (add-suc, ← suc-add, suc-sub-suc) (ap (λ (l : List A). f c ∷ l) p)
      go false p q = rw (add-suc, ← suc-add c (steps f ok (suc c) n (suc a)), suc-sub-suc) q

  -- and its cells are the cells of the two
  pub cut_steps : (c n a b : ℕ) → steps f ok c n (a + b) ≡ steps f ok c n a + steps f ok (c + steps f ok c n a) (n - steps f ok c n a) b
  unfolding steps
  cut_steps c zero a b = refl
  cut_steps c (suc n) zero b = rw (zero-add, add-zero, sub-zero, zero-add)
  cut_steps c (suc n) (suc a) b = rw suc-add (go (ok (f c)) (cut_steps (suc c) n a b) (rw suc-add at (cut_steps (suc c) n (suc a) b)))
    where
      go : (t : Bool)
          → steps f ok (suc c) n (a + b) ≡ steps f ok (suc c) n a + steps f ok (suc c + steps f ok (suc c) n a) (n - steps f ok (suc c) n a) b
          → steps f ok (suc c) n (suc (a + b)) ≡ steps f ok (suc c) n (suc a) + steps f ok (suc c + steps f ok (suc c) n (suc a)) (n - steps f ok (suc c) n (suc a)) b
          → cond t (suc (steps f ok (suc c) n (a + b))) (suc (steps f ok (suc c) n (suc (a + b))))
          ≡ cond t (suc (steps f ok (suc c) n a)) (suc (steps f ok (suc c) n (suc a)))
          + steps f ok (c + cond t (suc (steps f ok (suc c) n a)) (suc (steps f ok (suc c) n (suc a))))
          (suc n - cond t (suc (steps f ok (suc c) n a)) (suc (steps f ok (suc c) n (suc a)))) b
      go true p q = rw (add-suc, ← suc-add, suc-sub-suc) (omega arith)
      go false p q = rw (add-suc, ← suc-add c (steps f ok (suc c) n (suc a)), suc-sub-suc) (omega arith)
