-- The powers of v modulo p, and what the primitive roots of the 52 primes are: one computed test over the table. Rests on Powers.
use Prim.Native.Nat.{ℕ, zero, suc, ◌+◌, ◌*◌, ◌-◌, ◌%◌, ◌≤◌, ◌<◌}
use Rattle.std.specs.Prelude.{Bool, true, false, cond, not, ◌&&◌, ◌≡◌, refl, eqb, ltb}
use Rattle.std.proofs.lemmas.Bool.{false≢true, eqb-false}
use mathlib.Core.List.{Memᴰ}
use Rattle.std.proofs.Math.Path.{ap, sym}
use Rattle.std.proofs.Common.{◌∙◌, subst, ⊎_elim, eq-or-lt_of_le, add-zero, add-suc, suc-add, mul-one, mul-zero, mod-eq_of_lt, ltb-true, eqb-true}
use Rattle.std.proofs.Math.Nat.{zero-add, zero-mod, mod-lt}
use native.Mathlib.Omega.{arith}
use Rattle.laws.specs.Members.{both, every, at_each}
use Rattle.laws.specs.Units.{undo, undo_inj}
use Rattle.wcdma_shape.specs.Rectangle.{primes, prime}
use Rattle.wcdma_shape.specs.Powers.{power, first_one, generates, root_from, root, is_table_root}
use Rattle.wcdma_shape.specs.Shape.{listed_big, prime_listed}

-- v is a primitive root of p, one of the six
pub record Root (p v : ℕ) : Type 0 where
  pub big : 6 < p
  pub above_one : 1 < v
  pub low : v < p
  pub six : is_table_root v ≡ true
  pub last : power p v (p - 1) ≡ 1
  pub order : (d : ℕ) → 0 < d → d < p - 1 → power p v d ≡ 1 → ⊥

-- what the test says of the powers from s = v^x on
first_one_lem : (p v x s n : ℕ) → s ≡ power p v x → first_one p v s n ≡ true → (d : ℕ) → d < n → power p v (x + d) ≡ 1 → ⊥
unfolding first_one power
first_one_lem p v x s zero q t d l e = omega arith
first_one_lem p v x s (suc n) q t d l e =
    go (eqb s 1) refl t d l e (λ t d l e. first_one_lem p v (suc x) (v * s % p) n (ap (λ (y : ℕ). v * y % p) q) t d l e)
  where
    go : (b : Bool) → eqb s 1 ≡ b → (not b && first_one p v (v * s % p) n) ≡ true → (d : ℕ) → d < suc n → power p v (x + d) ≡ 1
        → (first_one p v (v * s % p) n ≡ true → (d : ℕ) → d < n → power p v (suc x + d) ≡ 1 → ⊥) → ⊥
    go true w t d l e r = false≢true t
    go false w t zero l e r = eqb-false s 1 w (q ∙ ap (power p v) (sym (add-zero x)) ∙ e)
    go false w t (suc d) l e r = r t d (omega arith) (ap (power p v) (suc-add x d ∙ sym (add-suc x d)) ∙ e)

then_one : (p v x s n : ℕ) → s ≡ power p v x → first_one p v s n ≡ true → power p v (x + n) ≡ 1
unfolding first_one power
then_one p v x s zero q t = ap (power p v) (add-zero x) ∙ sym q ∙ eqb-true s 1 t
then_one p v x s (suc n) q t =
    ap (power p v) (add-suc x n ∙ sym (suc-add x n))
    ∙ then_one p v (suc x) (v * s % p) n (ap (λ (y : ℕ). v * y % p) q) (both (not (eqb s 1)) (first_one p v (v * s % p) n) t).1

ok_root : ℕ → Bool
ok_root p = (ltb 1 (root p) && ltb (root p) p) && (is_table_root (root p) && generates p (root p))

roots_tested : every ok_root primes ≡ true
unfolding ok_root primes root root_from generates first_one
roots_tested = refl

-- each prime of the table has its root
pub listed_root : {p : ℕ} → Memᴰ p primes → Root p (root p)
unfolding ok_root generates power
listed_root {p} m =
    let v = root p in
    let t = both (ltb 1 v && ltb v p) (is_table_root v && generates p v) (at_each ok_root primes roots_tested m) in
    let s = both (ltb 1 v) (ltb v p) t.0 in
    let g = both (is_table_root v) (generates p v) t.1 in
    let b = listed_big m in
    let l = ltb-true v p s.1 in
    let f : v ≡ v * 1 % p = sym (ap (λ (x : ℕ). x % p) (mul-one v) ∙ mod-eq_of_lt l) in
    record {
      big = b;
      above_one = ltb-true 1 v s.0;
      low = l;
      six = g.0;
      last = ap (power p v) (let w : p - 1 ≡ 1 + (p - 2) = omega arith in w) ∙ then_one p v 1 v (p - 2) f g.1;
      order = λ d h l e. first_one_lem p v 1 v (p - 2) f g.1 (d - 1) (omega arith) (ap (power p v) (let w : 1 + (d - 1) ≡ d = omega arith in w) ∙ e);
    }

pub prime_root : (k : ℕ) → Root (prime k) (root (prime k))
prime_root k = listed_root (prime_listed k)

-- no smaller number from 2 on is a primitive root
root_from_least : (p n v x : ℕ) → v ≤ x → x < root_from p n v → generates p x ≡ false
unfolding root_from
root_from_least p zero v x h l = absurd (omega arith)
root_from_least p (suc n) v x h l = go (generates p v) refl l (root_from_least p n (suc v) x)
  where
    go : (b : Bool) → generates p v ≡ b → x < cond b v (root_from p n (suc v)) → (suc v ≤ x → x < root_from p n (suc v) → generates p x ≡ false) → generates p x ≡ false
    go true e l r = absurd (omega arith)
    go false e l r = ⊎_elim (λ (o : v ≡ x). subst (λ (y : ℕ). generates p y ≡ false) o e) (λ o. r o l) (eq-or-lt_of_le h)

pub root_least : (p x : ℕ) → 2 ≤ x → x < root p → generates p x ≡ false
unfolding root
root_least p x h l = root_from_least p p 2 x h l

-- the powers of a root below the (p - 1)st are different numbers from 1 to p - 1
module _ {p v : ℕ} (r : Root p v) where
  inverse : v * power p v (p - 2) % p ≡ 1
  unfolding power
  inverse = let b = r.big in sym (ap (power p v) (let w : p - 1 ≡ suc (p - 2) = omega arith in w)) ∙ r.last

  pub power_lt : (x : ℕ) → power p v x < p
  unfolding power
  power_lt zero = let b = r.big in omega arith
  power_lt (suc x) = let b = r.big in mod-lt (v * power p v x) (omega arith)

  pub power_not_zero : (x : ℕ) → power p v x ≡ 0 → ⊥
  unfolding power
  power_not_zero zero e = omega arith
  power_not_zero (suc x) e =
      power_not_zero x
      (sym (undo v (power p v (p - 2)) p (power p v x) inverse (power_lt x)) ∙ ap (λ (z : ℕ). power p v (p - 2) * z % p) e
      ∙ ap (λ (z : ℕ). z % p) (mul-zero (power p v (p - 2))) ∙ zero-mod p)

  pub power_pos : (x : ℕ) → 0 < power p v x
  power_pos x = let h : ¬ (power p v x ≡ 0) = power_not_zero x in omega arith

  power_back : (x d : ℕ) → power p v x ≡ power p v (x + d) → 1 ≡ power p v d
  unfolding power
  power_back zero d e = rw zero-add at e
  power_back (suc x) d e =
      power_back x d
      (undo_inj v (power p v (p - 2)) p (power p v x) (power p v (x + d)) inverse (power_lt x) (power_lt (x + d)) (e ∙ ap (power p v) (suc-add x d)))

  apart : (x y : ℕ) → x < y → y < p - 1 → power p v x ≡ power p v y → ⊥
  apart x y l h e =
      r.order (y - x) (omega arith) (omega arith)
      (sym (power_back x (y - x) (e ∙ ap (power p v) (let q : y ≡ x + (y - x) = omega arith in q))))

  pub power_inj : (x y : ℕ) → x < p - 1 → y < p - 1 → power p v x ≡ power p v y → x ≡ y
  power_inj x y h l e =
      let a : ¬ (x < y) = λ o. apart x y o l e in
      let b : ¬ (y < x) = λ o. apart y x o h (sym e) in
      omega arith
