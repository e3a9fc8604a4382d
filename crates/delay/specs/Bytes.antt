-- Byte by number: what byte t from where a machine stands does, told without the bytes before it. Of the branches' bytes each branches-th is
-- the same ring's, so byte t is the (t / branches)-th of its ring.
use Rattle.std.specs.Prelude.{ℕ, ◌+◌, ◌*◌, ◌/◌, ◌%◌, ◌<◌, ◌≡◌, ◌≢◌}
use Rattle.std.proofs.Common.{sym, mul-pos}
use Rattle.std.proofs.Math.Nat.{add_comm, mod-lt, mod-add-mod, add-mod_right, add-div_right}
use native.Mathlib.Omega.{arith}
use Rattle.laws.specs.Digits.{mod_cancel}
use Rattle.delay.specs.Machine.{Machine, Stand, Slot, through, place, ring_of, offset, slot_in, place_of}
use Rattle.delay.specs.Slots.{ring_lt, ring_inj, offset_suc, Inside, inside_lt, at_slot, slot_at_lem, gap}

module _ (M : Machine) (R : Stand) where
  -- its ring, its place in it, and its slot
  unfoldable pub ring_at : ℕ → ℕ
  ring_at t = ring_of M.way M.branches ((R.branch + t) % M.branches)

  unfoldable pub row_at : ℕ → ℕ
  row_at t = (place_of R (ring_at t) + t / M.branches) % (M.step * ring_at t)

  unfoldable pub slot_at : ℕ → Slot
  slot_at t = slot_in M.step (ring_at t) (row_at t)

  -- how many places behind its input byte t comes out
  unfoldable pub delay_at : ℕ → ℕ
  delay_at t = M.branches * M.step * ring_at t

  -- ---- rings

  pub ring_few : (t : ℕ) → ring_at t < M.branches
  unfolding ring_at
  ring_few t = ring_lt M.way M.branches _ (mod-lt (R.branch + t) M.some_branches)

  -- branches bytes on comes the same ring again
  pub ring_again : (t : ℕ) → ring_at (t + M.branches) ≡ ring_at t
  unfolding ring_at
  ring_again t =
      let z : R.branch + (t + M.branches) ≡ R.branch + t + M.branches = omega arith in
      rw (z, add-mod_right (R.branch + t) M.branches)

  -- and bytes of one ring are whole turns apart
  pub same_ring : (t u : ℕ) → ring_at t ≡ ring_at u → t % M.branches ≡ u % M.branches
  unfolding ring_at
  same_ring t u e =
      mod_cancel M.branches R.branch t u M.some_branches
      (rw (add_comm t R.branch, add_comm u R.branch)
      (ring_inj M.way M.branches _ _ (mod-lt (R.branch + t) M.some_branches) (mod-lt (R.branch + u) M.some_branches) e))

  pub turn_apart : (t u : ℕ) → t < u → u < t + M.branches → ring_at t ≢ ring_at u
  turn_apart t u h l e = omega (arith, gap M.branches t u h (sym (same_ring t u e)))

  -- ---- places

  pub row_few : (t : ℕ) → 0 < ring_at t → row_at t < M.step * ring_at t
  unfolding row_at
  row_few t h = mod-lt (place_of R (ring_at t) + t / M.branches) (mul-pos M.some_step h)

  pub row_again : (t : ℕ) → row_at (t + M.branches) ≡ (row_at t + 1) % (M.step * ring_at t)
  unfolding row_at
  row_again t =
      let d : (t + M.branches) / M.branches ≡ t / M.branches + 1 = add-div_right t {k = M.branches} M.some_branches in
      let z : place_of R (ring_at t) + (t / M.branches + 1) ≡ place_of R (ring_at t) + t / M.branches + 1 = omega arith in
      rw (ring_again t, d, z) (sym (mod-add-mod (place_of R (ring_at t) + t / M.branches) (M.step * ring_at t) 1))

  -- ---- slots

  pub slot_inside : (t p : ℕ) → slot_at t ≡ place p → Inside M.step (ring_at t) p
  unfolding slot_at
  slot_inside t p e =
      let a = at_slot M.step (ring_at t) (row_at t) p e in
      record { low = omega (arith, a.1); high = rw (offset_suc M.step (ring_at t)) (omega (arith, a.1, row_few t a.0)) }

  pub slot_in_lem : (t p : ℕ) → slot_at t ≡ place p → p < offset M.step M.branches
  slot_in_lem t p e = inside_lt M.step (ring_at t) M.branches p (ring_few t) (slot_inside t p e)

  -- a byte of ring 0 passes through
  pub slot_through : (t : ℕ) → ring_at t ≡ 0 → slot_at t ≡ through
  unfolding slot_at
  slot_through t e = rw e

  -- and one of another ring goes to its place there
  pub slot_row : (t x : ℕ) → ring_at t ≡ x → 0 < x → slot_at t ≡ place (offset M.step x + row_at t)
  unfolding slot_at
  slot_row t x e h = rw e (slot_at_lem M.step x (row_at t) h)
