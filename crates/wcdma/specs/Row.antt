-- One row: its columns have different entries, all below C. Rests on the roots of the shape and the numbers q of the set-up.
use Rattle.std.specs.Prelude.{ℕ, ◌+◌, ◌*◌, ◌-◌, ◌%◌, ◌≤◌, ◌<◌, Bool, cond, ◌≡◌, ◌⊎◌}
use Rattle.std.proofs.Math.Bool.{true, false}
use Rattle.std.proofs.Math.Path.{refl, ap}
use Rattle.std.proofs.Common.{sym, ◌∙◌, subst, mul_comm, mod-lt}
use Rattle.std.proofs.Math.Logic.{inl, inr}
use native.Mathlib.Omega.{arith}
use Rattle.std.proofs.Math.Decide.{ℕ_discrete}
use Rattle.std.proofs.Math.Dec.{ltb, eqb}
use borrow.Author.Tests.{ltb-true, ltb-false, eqb-true, eqb-false, eq-eqb, ne_eqb}
use Rattle.laws.specs.Units.{undo_inj}
use Rattle.wcdma_shape.specs.Powers.{power}
use Rattle.wcdma_shape.specs.Roots.{Root, power_lt, power_not_zero, power_inj}
use Rattle.wcdma_setup.proofs.Found.{Unitary}
use Rattle.wcdma.specs.Turbo.{entry}

module _ (p v : ℕ) (root : Root p v) (q : ℕ) (unit : Unitary (p - 1) q) where
  s : ℕ → ℕ
  s j = power p v (j * q % (p - 1))

  s_lt : (j : ℕ) → s j < p
  unfolding s
  s_lt j = power_lt root (j * q % (p - 1))

  s_pos : (j : ℕ) → s j ≡ 0 → ⊥
  unfolding s
  s_pos j e = power_not_zero root (j * q % (p - 1)) e

  -- different columns below p - 1 have different powers
  s_inj : (j h : ℕ) → j < p - 1 → h < p - 1 → s j ≡ s h → j ≡ h
  unfolding s
  s_inj j h a b e =
      let g = root.big in
      undo_inj q unit.back (p - 1) j h unit.inverse a b
      (ap (λ (x : ℕ). x % (p - 1)) (mul_comm q j)
      ∙ power_inj root (j * q % (p - 1)) (h * q % (p - 1)) (mod-lt (j * q) (omega arith)) (mod-lt (h * q) (omega arith)) e
      ∙ ap (λ (x : ℕ). x % (p - 1)) (mul_comm h q))

  -- the three kinds of column, where there are p columns or p + 1
  View : ℕ → ℕ → Type 0
  View j e = ((j < p - 1) × (e ≡ s j)) ⊎ (((j ≡ p - 1) × (e ≡ 0)) ⊎ ((j ≡ p) × (e ≡ p)))

  view : (c j : ℕ) → (c ≡ p - 1 → ⊥) → j < p + 1 → View j (entry p v c q j)
  unfolding View entry s
  view c j n h = rw (ne_eqb c (p - 1) n) (go (ltb j (p - 1)) refl (eqb j (p - 1)) refl)
    where
      go : (b : Bool) → ltb j (p - 1) ≡ b → (t : Bool) → eqb j (p - 1) ≡ t → View j (cond b (power p v (j * q % (p - 1))) (cond t 0 p))
      go true e t w = inl (ltb-true j (p - 1) e, refl)
      go false e true w = inr (inl (eqb-true j (p - 1) w, refl))
      go false e false w = inr (inr (let g = root.big in omega (arith, ltb-false j (p - 1) e, eqb-false j (p - 1) w), refl))

  view_inj : (j h e : ℕ) → View j e → View h e → j ≡ h
  unfolding View
  view_inj j h e (inl a) (inl b) = s_inj j h a.0 b.0 (sym a.1 ∙ b.1)
  view_inj j h e (inl a) (inr (inl b)) = absurd (s_pos j (sym a.1 ∙ b.1))
  view_inj j h e (inl a) (inr (inr b)) = omega (arith, s_lt j)
  view_inj j h e (inr (inl a)) (inl b) = absurd (s_pos h (sym b.1 ∙ a.1))
  view_inj j h e (inr (inl a)) (inr (inl b)) = omega arith
  view_inj j h e (inr (inl a)) (inr (inr b)) = let g = root.big in omega arith
  view_inj j h e (inr (inr a)) (inl b) = omega (arith, s_lt h)
  view_inj j h e (inr (inr a)) (inr (inl b)) = let g = root.big in omega arith
  view_inj j h e (inr (inr a)) (inr (inr b)) = omega arith

  view_lt : (c j e : ℕ) → p ≤ c → j < c → View j e → e < c
  unfolding View
  view_lt c j e h l (inl a) = omega (arith, s_lt j)
  view_lt c j e h l (inr (inl a)) = omega arith
  view_lt c j e h l (inr (inr a)) = omega arith

  module _ (c : ℕ) (low : p - 1 ≤ c) (high : c ≤ p + 1) where
    pub entry_lt : (j : ℕ) → j < c → entry p v c q j < c
    unfolding entry s
    entry_lt j l = go (ℕ_discrete c (p - 1))
      where
        go : Dec (c ≡ p - 1) → entry p v c q j < c
        go (yes e) = rw (eq-eqb c (p - 1) e) (let g = root.big in omega (arith, s_lt j, e))
        go (no n) = view_lt c j (entry p v c q j) (omega (arith, n)) l (view c j n (omega arith))

    pub entry_inj : (j h : ℕ) → j < c → h < c → entry p v c q j ≡ entry p v c q h → j ≡ h
    unfolding entry s
    entry_inj j h l m w = go (ℕ_discrete c (p - 1))
      where
        go : Dec (c ≡ p - 1) → j ≡ h
        go (yes e) =
            s_inj j h (omega (arith, e)) (omega (arith, e))
            (let r = rw (eq-eqb c (p - 1) e) at w in
            let a : ¬ (s j ≡ 0) = s_pos j in
            let b : ¬ (s h ≡ 0) = s_pos h in
            omega arith)
        go (no n) =
            view_inj j h (entry p v c q j) (view c j n (omega arith))
            (subst (View h) (sym w) (view c h n (omega arith)))
