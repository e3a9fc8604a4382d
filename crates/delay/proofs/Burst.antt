-- How far a burst is spread: where a channel byte comes out of the deinterleaver, and how far apart two near ones do. Over the number of branches
-- and the step, and over bytes of any type.
use Prim.Native.Nat.{ℕ, suc, ◌+◌, ◌-◌, ◌*◌, ◌/◌, ◌%◌, ◌≤◌, ◌<◌}
use Rattle.std.specs.Prelude.{◌≡◌, ◌≢◌, List, length, get_or, replicate}
use Rattle.std.proofs.Math.Path.{sym, ap}
use Rattle.std.proofs.Common.{◌∙◌, mul_comm, le-mul_of_pos_right}
use Rattle.std.proofs.Math.Nat.{add-mod_right, mod-lt, zero-add, mul-add, mul-pos, mul-suc, div-add-mod', suc-mul}
use native.Mathlib.Omega.{arith}
use Rattle.std.proofs.Math.Decide.{dec_lt}
use Rattle.std.proofs.Math.Arith.{digits_mod}
use Rattle.laws.specs.declared.Way.TheVariants.{Deinterleaver}
use Rattle.delay.specs.Machine.{Machine, machine, Stand, offset, run_output, comes_at, spread_of}
use Rattle.delay.specs.Bytes.{ring_at, slot_at, delay_at}
use Rattle.delay.specs.Cuts.{length_output}
use Rattle.delay.specs.Delay.{late_early, same_delay, brings, fresh}
use Rattle.delay.specs.Burst.{distance, Labels, Only}

before : (u v d : ℕ) → v + d ≤ u → d ≤ distance u v
before u v d h = omega (arith, h)

behind : (u v d : ℕ) → u + d ≤ v → d ≤ distance u v
behind u v d h = omega (arith, h)

module _ (b s : ℕ) (hb : 0 < b) (hs : 0 < s) where
  pub comes_behind : (a : ℕ) → a ≤ comes_at b s a
  unfolding comes_at
  comes_behind a = omega arith

  -- ---- of a deinterleaver at branch 0, whatever its places

  module _ (R : Stand) (at_first : R.branch ≡ 0) where
    abbrev back : Machine
    back = machine b s hb hs Deinterleaver

    abbrev delay : ℕ → ℕ
    delay = delay_at back R

    -- the place is the byte's own number and its delay ..
    comes_late : (a : ℕ) → comes_at b s a ≡ a + delay a
    unfolding comes_at delay_at ring_at
    comes_late a = rw (at_first, zero-add a)

    -- .. which is the delay at that place, too ..
    its_delay : (a : ℕ) → comes_at b s a ≡ a + delay (comes_at b s a)
    unfolding delay_at
    its_delay a =
        let same : delay (comes_at b s a) ≡ delay a = ap delay (comes_late a) ∙ same_delay back R a (ring_at back R a) in
        comes_late a ∙ ap (λ (d : ℕ). a + d) (sym same)

    -- .. and no other place lies its own delay behind the byte
    its_place : (a u : ℕ) → u ≡ a + delay u → u ≡ comes_at b s a
    unfolding delay_at
    its_place a u e =
        let same : delay u ≡ delay a = ap delay e ∙ same_delay back R a (ring_at back R u) in
        e ∙ ap (λ (d : ℕ). a + d) same ∙ sym (comes_late a)

    module _ {A : Type 0} (f : A) (xs : List A) where
      abbrev output : List A
      output = run_output (slot_at back R) suc 0 (replicate (offset s b) f) xs

      -- the byte at a place is the one that lies the place's delay before it
      stands : (a u : ℕ) → u < length xs → u ≡ a + delay u → get_or output u f ≡ get_or xs a f
      stands a u h e = fresh back R f xs u h ∙ brings back R f (λ n. get_or xs n f) a u e

      -- byte a comes out at its place ..
      pub comes_out : (a : ℕ) → comes_at b s a < length xs → get_or output (comes_at b s a) f ≡ get_or xs a f
      comes_out a h = stands a (comes_at b s a) h (its_delay a)

      -- .. and at no other
      no_other : Labels f xs → (a u : ℕ) → a < length xs → u < length xs → get_or output u f ≡ get_or xs a f → u ≡ comes_at b s a
      no_other labels a u l h e = go (dec_lt u (delay u))
        where
          go : Dec (u < delay u) → u ≡ comes_at b s a
          go (yes early) =
              let fill : get_or output u f ≡ f = fresh back R f xs u h ∙ late_early f (delay u) (λ n. get_or xs n f) u early in
              absurd (labels.not_fill a l (sym e ∙ fill))
          go (no n) =
              let k : u ≡ u - delay u + delay u = omega (arith, n) in
              let own : u - delay u ≡ a = labels.own (u - delay u) a (omega arith) l (sym (stands (u - delay u) u h k) ∙ e) in
              its_place a u (omega (arith, k, own))

      pub only : Labels f xs → (a : ℕ) → comes_at b s a < length xs → Only f output (comes_at b s a) (get_or xs a f)
      only labels a l =
          let long : length output ≡ length xs = length_output (slot_at back R) suc xs 0 (replicate (offset s b) f) in
          let la : a < length xs = omega (arith, l, comes_behind a) in
          record { within = rw long l; there = comes_out a l; nowhere_else = λ w lw e. no_other labels a w la (rw long at lw) e }

  -- ---- two near bytes

  more : (d : ℕ) → b * s + d ≤ b * s * suc d
  more d = omega (arith, mul-suc (b * s) d, mul_comm (b * s) d, le-mul_of_pos_right d (mul-pos hb hs))

  -- the second comes d + 1 after the first: in the same turn, at a ring that is d + 1 smaller ..
  inside : (a d i j : ℕ) → i ≡ j + suc d → a + suc d + b * s * j + spread_of b s ≤ a + b * s * i
  unfolding spread_of
  inside a d i j e = rw (e, mul-add (b * s) j (suc d)) (omega (arith, more d, mul-pos hb hs))

  -- .. or in the next turn, at a larger one
  across : (a d i j e : ℕ) → j ≡ i + suc e → a + b * s * i + spread_of b s ≤ a + suc d + b * s * j
  unfolding spread_of
  across a d i j e q = rw (q, mul-add (b * s) i (suc e)) (omega (arith, more e))

  -- further on in the same turn
  same_turn : (a k : ℕ) → a % b + k < b → (a + k) % b ≡ a % b + k
  same_turn a k l =
      let e : a + k ≡ a / b * b + (a % b + k) = omega (arith, div-add-mod' a b) in
      ap (λ (n : ℕ). n % b) e ∙ digits_mod (a / b) l

  near : (a d : ℕ) → suc d < b → spread_of b s ≤ distance (comes_at b s a) (comes_at b s (a + suc d))
  unfolding comes_at
  near a d h = go (dec_lt (a % b + suc d) b)
    where
      go : Dec (a % b + suc d < b) → spread_of b s ≤ distance (a + b * s * (b - 1 - a % b)) (a + suc d + b * s * (b - 1 - (a + suc d) % b))
      go (yes l) =
          before _ _ (spread_of b s) (inside a d (b - 1 - a % b) (b - 1 - (a + suc d) % b) (omega (arith, same_turn a (suc d) l, l)))
      go (no n) =
          let r : a % b + suc d - b < b = omega (arith, n, mod-lt a hb) in
          let e : a + suc d ≡ suc (a / b) * b + (a % b + suc d - b) = omega (arith, n, div-add-mod' a b, suc-mul (a / b) b) in
          let m : (a + suc d) % b ≡ a % b + suc d - b = ap (λ (n : ℕ). n % b) e ∙ digits_mod (suc (a / b)) r in
          behind _ _ (spread_of b s) (across a d (b - 1 - a % b) (b - 1 - (a + suc d) % b) (b - suc (suc d)) (omega (arith, m, n, mod-lt a hb)))

  -- two different bytes that are fewer places apart than there are branches come out so far apart at least ..
  pub spread : (a c : ℕ) → a ≢ c → distance a c < b → spread_of b s ≤ distance (comes_at b s a) (comes_at b s c)
  spread a c other h = go (dec_lt a c)
    where
      go : Dec (a < c) → spread_of b s ≤ distance (comes_at b s a) (comes_at b s c)
      go (yes l) =
          let e : a + suc (c - suc a) ≡ c = omega (arith, l) in
          rw e at (near a (c - suc a) (omega (arith, h, l)))
      go (no n) =
          let l : c < a = omega (arith, n, other) in
          let e : c + suc (a - suc c) ≡ a = omega (arith, l) in
          let k : spread_of b s ≤ distance (comes_at b s c) (comes_at b s a) = rw e at (near c (a - suc c) (omega (arith, h, l))) in
          omega (arith, k)

  -- .. and each two neighbours of one turn just so far
  pub reached : (a : ℕ) → a % b + 1 < b → distance (comes_at b s a) (comes_at b s (a + 1)) ≡ spread_of b s
  unfolding comes_at spread_of
  reached a l =
      let e : b - 1 - a % b ≡ suc (b - 1 - (a + 1) % b) = omega (arith, same_turn a 1 l, l) in
      let p : b * s * (b - 1 - a % b) ≡ b * s * (b - 1 - (a + 1) % b) + b * s = ap (λ (n : ℕ). b * s * n) e ∙ mul-suc (b * s) (b - 1 - (a + 1) % b) in
      omega (arith, p, mul-pos hb hs)

  -- bytes as far apart as there are branches come out just as far apart
  pub turn_later : (a : ℕ) → comes_at b s (a + b) ≡ comes_at b s a + b
  unfolding comes_at
  turn_later a = rw (add-mod_right a b) (omega arith)
