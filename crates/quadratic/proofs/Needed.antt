-- The test is needed: for every K that is a multiple of 4, where different positions have different addresses the test passes. An even f1
-- gives position K/2 the address 0; two odd numbers give even addresses only; and an odd divisor h of K for which f1 + f2·z is a multiple
-- of h, for some z, gives two positions K/h apart, of sum z modulo h, one address. The last is used with z = 0 for a common divisor of f1
-- and K, and with z = -f1/f2 for a divisor that has none with f2. Rests on Split and Shared of
-- laws.
use Rattle.std.specs.Prelude.{◌≡◌}
use Rattle.std.proofs.Math.Path.{refl, ap}
use Rattle.std.proofs.Common.{sym, ◌∙◌, mul-zero}
use Rattle.std.proofs.Math.Logic.{⊎_elim}
use Prim.Native.Nat.{ℕ, zero, suc, ◌+◌, ◌*◌, ◌/◌, ◌%◌, ◌^◌, ◌<◌}
use Rattle.std.proofs.Math.Nat.{mod-add-div, mod-lt, mod-eq_of_lt, div-add-mod}
use native.Mathlib.Omega.{arith}
use Rattle.laws.specs.Perm.{Perm}
use Rattle.laws.specs.Run.{run}
use Rattle.laws.specs.Position.{position}
use Rattle.laws.specs.Residue.{whole, same, no_more, even_or_odd}
use Rattle.laws.specs.Euclid.{gcd, gcd_greatest}
use Rattle.laws.specs.Split.{split, power_of_rest}
use Rattle.laws.specs.Shared.{OneToOne, run_perm}
use Rattle.quadratic.specs.Formula.{quadratic_l}

-- a position modulo K
address_mod : (k f1 f2 t : ℕ) → quadratic_l k f1 f2 (t % k) ≡ quadratic_l k f1 f2 t
unfolding quadratic_l
address_mod k f1 f2 t =
    sym (same k (f1 * q + f2 * (q * (t + r))) (f1 * r + f2 * (r * r))
    (omega (arith, ap (λ (x : ℕ). f1 * x) e, ap (λ (x : ℕ). f2 * (x * t)) e, ap (λ (x : ℕ). f2 * (r * x)) e)))
  where
    q : ℕ
    q = t / k

    r : ℕ
    r = t % k

    e : t ≡ r + k * q
    e = sym (mod-add-div t k)

-- t + t² is even
half : ℕ → ℕ
half zero = 0
half (suc t) = half t + suc t

halves : (t : ℕ) → t + t * t ≡ 2 * half t
unfolding half
halves zero = omega arith
halves (suc t) = omega (arith, halves t)

-- a factor of an odd number is odd
odd_factor : (g q y : ℕ) → g * q ≡ 2 * y + 1 → g ≡ 2 * (g / 2) + 1
odd_factor g q y e = ⊎_elim (λ z. absurd (omega (arith, ap (λ (w : ℕ). w * q) z))) (λ z. z) (even_or_odd g)

module _ (k f1 f2 : ℕ) (hk : 0 < k) (apart : OneToOne (quadratic_l k f1 f2) k) where
  -- so two positions with one address, wherever they are, are a multiple of K apart
  apart_anywhere : (s d : ℕ) → quadratic_l k f1 f2 s ≡ quadratic_l k f1 f2 (s + d) → d % k ≡ 0
  apart_anywhere s d e =
      no_more k d s hk
      (sym (apart (s % k) ((s + d) % k) (mod-lt s hk) (mod-lt (s + d) hk) (address_mod k f1 f2 s ∙ e ∙ sym (address_mod k f1 f2 (s + d)))))

  -- an odd divisor h = 2c + 1 of K = h·w
  odd_divisor : (c w z m : ℕ) → k ≡ (2 * c + 1) * w → f1 + f2 * z ≡ (2 * c + 1) * m → c ≡ 0
  unfolding quadratic_l
  odd_divisor zero w z m e q = refl
  odd_divisor (suc c) w z m e q = absurd (not_zero (apart_anywhere s w shared))
    where
      s : ℕ
      s = z * (suc c + 1) + w * suc c

      shared : quadratic_l k f1 f2 s ≡ quadratic_l k f1 f2 (s + w)
      shared = sym (same k (m + f2 * (z + w)) (f1 * s + f2 * (s * s))
          (omega (arith, ap (λ (x : ℕ). x * (m + f2 * (z + w))) e, ap (λ (x : ℕ). w * x) q)))

      not_zero : w % k ≡ 0 → ⊥
      not_zero o =
          let l : w < k = omega (arith, hk) in
          let y : w ≡ 0 = sym (mod-eq_of_lt l) ∙ o in
          omega (arith, ap (λ (x : ℕ). (2 * suc c + 1) * x) y)

  -- K is a multiple of 4, so f1 is odd ..
  f1_odd : (m : ℕ) → k ≡ 4 * m → f1 ≡ 2 * (f1 / 2) + 1
  unfolding quadratic_l
  f1_odd m e = ⊎_elim (λ o. absurd (even o)) (λ o. o) (even_or_odd f1)
    where
      even : f1 ≡ 2 * (f1 / 2) → ⊥
      even o =
          let half-way = same k (f1 / 2 + f2 * m) (f1 * 0 + f2 * (0 * 0)) {x = f1 * (0 + 2 * m) + f2 * ((0 + 2 * m) * (0 + 2 * m))}
          (omega (arith, ap (λ (x : ℕ). x * (f1 / 2 + f2 * m)) e, ap (λ (x : ℕ). m * x) o)) in
          let l : 2 * m < k = omega arith in
          omega (arith, mod-eq_of_lt l, apart_anywhere 0 (2 * m) (sym half-way))

  -- .. and f2 is even: else every address is even, and none is 1
  f2_even : (m : ℕ) → k ≡ 4 * m → f2 ≡ 2 * (f2 / 2)
  unfolding quadratic_l
  f2_even m e = ⊎_elim (λ o. o) (λ o. absurd (not_one o (p.l_of_m 1 (omega arith)))) (even_or_odd f2)
    where
      p : Perm k (quadratic_l k f1 f2) (λ a. position a (run (quadratic_l k f1 f2) 0 k))
      p = run_perm (quadratic_l k f1 f2) k (λ t l. mod-lt (f1 * t + f2 * (t * t)) hk) apart

      t : ℕ
      t = position 1 (run (quadratic_l k f1 f2) 0 k)

      v : ℕ
      v = f1 * t + f2 * (t * t)

      not_one : f2 ≡ 2 * (f2 / 2) + 1 → v % k ≡ 1 → ⊥
      not_one o q =
          omega (
            arith,
            div-add-mod v k,
            ap (λ (x : ℕ). x * (v / k)) e,
            ap (λ (x : ℕ). x * t) (f1_odd m e),
            ap (λ (x : ℕ). x * (t * t)) o,
            halves t,
          )

  -- a common divisor of K and f1
  pub f1_alone : k % 4 ≡ 0 → gcd k f1 ≡ 1
  f1_alone e =
      let m = k / 4 in
      let e4 = whole 4 k e in
      let g = gcd k f1 in
      let kg = whole g k (gcd_greatest k f1).divides_left in
      let fg = whole g f1 (gcd_greatest k f1).divides_right in
      let odd : g ≡ 2 * (g / 2) + 1 = odd_factor g (f1 / g) (f1 / 2) (sym fg ∙ f1_odd m e4) in
      let c = odd_divisor (g / 2) (k / g) 0 (f1 / g)
      (kg ∙ ap (λ (x : ℕ). x * (k / g)) odd)
      (omega (arith, mul-zero f2, fg, ap (λ (x : ℕ). x * (f1 / g)) odd)) in
      omega arith

  -- K divides f2 to the 16th
  pub f2_power : k % 4 ≡ 0 → k < 65536 → f2 ^ 16 % k ≡ 0
  f2_power e l =
      let m = k / 4 in
      let e4 = whole 4 k e in
      let s = split 16 k f2 hk l in
      let h = s.free in
      let b = s.free_is in
      let odd : h ≡ 2 * (h / 2) + 1 = odd_factor h b.more (f2 / 2 * b.less)
      (omega (arith, b.is, ap (λ (x : ℕ). x * b.less) (f2_even m e4))) in
      let c = odd_divisor (h / 2) s.rest (f1 * b.less) (f1 * b.more)
      (s.whole_is ∙ ap (λ (x : ℕ). x * s.rest) odd)
      (omega (arith, ap (λ (x : ℕ). f1 * x) b.is, ap (λ (x : ℕ). x * (f1 * b.more)) odd)) in
      power_of_rest s (omega arith)
