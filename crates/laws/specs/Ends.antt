-- Where a walk ends: at the last cell, or with its room full, and never a cell later. The three parts of `EndsAt` say it whole: no other
-- number of cells has them. For any rule and test. Rests on Keep and Cut.
use Prim.Native.Nat.{ℕ, zero, suc, ◌≤◌, ◌<◌}
use Rattle.std.specs.Prelude.{Bool, ◌∷◌, ◌⊎◌, ◌≡◌, ltb}
use Rattle.std.proofs.Math.Bool.{true, false, cond}
use Rattle.std.proofs.Math.Logic.{inl, inr}
use Rattle.std.proofs.Common.{⊎_elim, sym, ap, ◌∙◌, eq-or-lt_of_le, ltb-true, ltb-false}
use Rattle.std.proofs.Math.Path.{refl}
use native.Mathlib.Omega.{arith}
use Rattle.std.proofs.Math.ListN.{length}
use Rattle.laws.specs.Keep.{keep, wrote, steps}
use Rattle.laws.specs.Cut.{wrote_keep, steps_le}

module _ {A : Type 0} (f : ℕ → A) (ok : A → Bool) where
  -- a walk of m cells from c on, with n cells there and room for so many, ends there
  pub record EndsAt (c n room m : ℕ) : Type 0 where
    pub there : m ≤ n
    pub over : (m ≡ n) ⊎ (length (keep f ok c m) ≡ room)
    pub no_later : (j : ℕ) → j < m → length (keep f ok c j) < room

  -- it ends at the last cell, or with its room full
  pub steps_full : (c n room : ℕ) → (steps f ok c n room ≡ n) ⊎ (length (wrote f ok c n room) ≡ room)
  unfolding steps wrote
  steps_full c zero room = inl refl
  steps_full c (suc n) zero = inr refl
  steps_full c (suc n) (suc room) = go (ok (f c)) (steps_full (suc c) n room) (steps_full (suc c) n (suc room))
    where
      go : (b : Bool) → (steps f ok (suc c) n room ≡ n) ⊎ (length (wrote f ok (suc c) n room) ≡ room)
          → (steps f ok (suc c) n (suc room) ≡ n) ⊎ (length (wrote f ok (suc c) n (suc room)) ≡ suc room)
          → (cond b (suc (steps f ok (suc c) n room)) (suc (steps f ok (suc c) n (suc room))) ≡ suc n)
          ⊎ (length (cond b (f c ∷ wrote f ok (suc c) n room) (wrote f ok (suc c) n (suc room))) ≡ suc room)
      go true (inl e) q = inl (ap suc e)
      go true (inr e) q = inr (ap suc e)
      go false p (inl e) = inl (ap suc e)
      go false p (inr e) = inr e

  -- and before its last cell its room was not full
  pub steps_least : (c n room m : ℕ) → m < steps f ok c n room → length (keep f ok c m) < room
  unfolding steps keep
  steps_least c zero room m h = absurd (omega arith)
  steps_least c (suc n) zero m h = absurd (omega arith)
  steps_least c (suc n) (suc room) zero h = omega arith
  steps_least c (suc n) (suc room) (suc m) h = go (ok (f c)) h (steps_least (suc c) n room m) (steps_least (suc c) n (suc room) m)
    where
      go : (b : Bool) → suc m < cond b (suc (steps f ok (suc c) n room)) (suc (steps f ok (suc c) n (suc room)))
          → (m < steps f ok (suc c) n room → length (keep f ok (suc c) m) < room)
          → (m < steps f ok (suc c) n (suc room) → length (keep f ok (suc c) m) < suc room)
          → length (cond b (f c ∷ keep f ok (suc c) m) (keep f ok (suc c) m)) < suc room
      go true h p q = omega (arith, p (omega arith))
      go false h p q = q (omega arith)

  pub steps_end : (c n room : ℕ) → EndsAt c n room (steps f ok c n room)
  steps_end c n room = record { there = steps_le f ok c n room; over = over; no_later = steps_least c n room }
    where
      over : (steps f ok c n room ≡ n) ⊎ (length (keep f ok c (steps f ok c n room)) ≡ room)
      over = go (steps_full c n room)
        where
          go : (steps f ok c n room ≡ n) ⊎ (length (wrote f ok c n room) ≡ room)
              → (steps f ok c n room ≡ n) ⊎ (length (keep f ok c (steps f ok c n room)) ≡ room)
          go (inl e) = inl e
          go (inr e) = inr (sym (ap length (wrote_keep f ok c n room)) ∙ e)

  -- two ends are one
  not_before : {c n room a b : ℕ} → EndsAt c n room a → EndsAt c n room b → a < b → ⊥
  not_before {c} {n} {room} {a} {b} x y h = go x.over
    where
      go : (a ≡ n) ⊎ (length (keep f ok c a) ≡ room) → ⊥
      go (inl e) = omega (arith, y.there)
      go (inr e) = omega (arith, y.no_later a h)

  pub ends_once : {c n room a b : ℕ} → EndsAt c n room a → EndsAt c n room b → a ≡ b
  ends_once {a = a} {b = b} x y = go (ltb a b) refl
    where
      go : (t : Bool) → ltb a b ≡ t → a ≡ b
      go true e = absurd (not_before x y (ltb-true a b e))
      go false e = ⊎_elim (λ q. sym q) (λ l. absurd (not_before y x l)) (eq-or-lt_of_le (ltb-false a b e))
