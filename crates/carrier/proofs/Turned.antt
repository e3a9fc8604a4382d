-- The laws of the third step: the turn of streams 1 to 4 is below N, stream 1 is not turned, and with the two steps of Formula.antt, whatever d, N
-- and s, L and M undo each other. Rests on Third and Once.
use Rattle.std.specs.Prelude.{◌≡◌, refl, ℕ, ◌+◌, ◌-◌, ◌*◌, ◌/◌, ◌%◌, ◌≤◌, ◌<◌, leb}
use Rattle.std.proofs.Math.Path.{ap}
use Rattle.std.proofs.Common.{◌∙◌, mul-le-mul_right, mul_assoc, zero-mul, add-zero, leb-true}
use Rattle.std.proofs.Math.Nat.{mod-add-mod, mod-mod, mod-lt, mod-eq_of_lt, add-mod_right, sub-zero}
use native.Mathlib.Omega.{arith}
use Rattle.laws.specs.Digits.{mod_cancel}
use Rattle.laws.specs.Span.{at_number}
use Rattle.laws.specs.Sized.{Sized}
use Rattle.laws.specs.Perm.{Perm}
use Rattle.laws.specs.Walk.{Lawful, bare_lawful}
use Rattle.carrier.specs.Formula.{carrier_m, carrier_l}
use Rattle.carrier.specs.Third.{turn, third_step, spatial_m, third_back, spatial_l, spatial_rule}
use Rattle.carrier.proofs.Once.{carrier_once}

-- streams 1 to 4 are turned by 0, 2, 1 and 3 times r·bits
pub three_at_most : (i : ℕ) → 1 ≤ i → i ≤ 4 → (2 * (i - 1)) % 3 + 3 * ((i - 1) / 3) ≤ 3
three_at_most i lo hi = leb-true _ 3 (at_number (λ i. leb ((2 * (i - 1)) % 3 + 3 * ((i - 1) / 3)) 3) 1 4 refl i lo (omega arith))

-- so where 3·r·bits is below N the turn is
pub turn_below : (n bits r i : ℕ) → 1 ≤ i → i ≤ 4 → 3 * (r * bits) < n → turn bits r i < n
unfolding turn
turn_below n bits r i lo hi h =
    let c = (2 * (i - 1)) % 3 + 3 * ((i - 1) / 3) in
    omega (arith, mul_assoc c r bits, mul-le-mul_right (r * bits) (three_at_most i lo hi))

-- stream 1 is not turned
pub turn_first : (bits r : ℕ) → turn bits r 1 ≡ 0
unfolding turn
turn_first bits r = ap (λ (x : ℕ). x * bits) (zero-mul r) ∙ zero-mul bits

module _ {d n s : ℕ} (z : Sized d n s) (bits r i : ℕ) (h : turn bits r i < n) where
  -- the turn is taken off what it was added to, and added to what it was taken off
  off_on : (j : ℕ) → j < n → (third_step n bits r i j + turn bits r i) % n ≡ j
  unfolding third_step
  off_on j l =
      mod-add-mod (j + n - turn bits r i) n (turn bits r i)
      ∙ ap (λ (x : ℕ). x % n) (let e : j + n - turn bits r i + turn bits r i ≡ j + n = omega arith in e)
      ∙ add-mod_right j n
      ∙ mod-eq_of_lt l

  on_off : (t : ℕ) → t < n → third_step n bits r i (third_back n bits r i t) ≡ t
  unfolding third_step third_back
  on_off t l =
      let v = turn bits r i in
      mod_cancel n v ((t + v) % n + n - v) t (omega arith)
      (ap (λ (x : ℕ). x % n) (let e : (t + v) % n + n - v + v ≡ (t + v) % n + n = omega arith in e)
      ∙ add-mod_right ((t + v) % n) n
      ∙ mod-mod (t + v) n)
      ∙ mod-eq_of_lt l

  -- L and M undo each other below N
  pub spatial_once : Perm n (spatial_l d n s bits r i) (spatial_m d n s bits r i)
  unfolding spatial_l spatial_m third_back third_step
  spatial_once =
      let c = carrier_once z in
      record {
        l_below = λ t l. c.l_below (third_back n bits r i t) (back_below t);
        m_below = λ k l. step_below (carrier_m d n s k);
        l_of_m = λ k l. ap (carrier_l d n s) (off_on (carrier_m d n s k) (c.m_below k l)) ∙ c.l_of_m k l;
        m_of_l = λ t l. ap (third_step n bits r i) (c.m_of_l (third_back n bits r i t) (back_below t)) ∙ on_off t l;
      }
    where
      back_below : (t : ℕ) → third_back n bits r i t < n
      back_below t = mod-lt _ z.n_pos

      step_below : (j : ℕ) → third_step n bits r i j < n
      step_below j = mod-lt _ z.n_pos

  -- the laws of the family
  pub spatial_lawful : n < 65536 → Lawful n (spatial_rule d n s bits r i)
  spatial_lawful o = bare_lawful spatial_once o

-- of stream 1 L and M are those of the two steps
module _ {d n s : ℕ} (z : Sized d n s) (bits r : ℕ) where
  pub first_l : (t : ℕ) → t < n → spatial_l d n s bits r 1 t ≡ carrier_l d n s t
  unfolding spatial_l third_back
  first_l t l =
      ap (λ (v : ℕ). carrier_l d n s ((t + v) % n)) (turn_first bits r)
      ∙ ap (λ (x : ℕ). carrier_l d n s (x % n)) (add-zero t)
      ∙ ap (carrier_l d n s) (mod-eq_of_lt l)

  pub first_m : (k : ℕ) → k < n → spatial_m d n s bits r 1 k ≡ carrier_m d n s k
  unfolding spatial_m third_step
  first_m k l =
      ap (λ (v : ℕ). (carrier_m d n s k + n - v) % n) (turn_first bits r)
      ∙ ap (λ (x : ℕ). x % n) (sub-zero (carrier_m d n s k + n))
      ∙ add-mod_right (carrier_m d n s k) n
      ∙ mod-eq_of_lt ((carrier_once z).m_below k l)
