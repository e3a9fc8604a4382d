-- The numbers q of the 52 primes: each of the twenty is found by 89, is the next prime that it is to be, and has an inverse modulo p - 1. One
-- computed test over the table, and the law that takes it to each prime. Rests on Numbers and Primes.
use Rattle.std.specs.Prelude.{ℕ, zero, suc, ◌+◌, ◌*◌, ◌-◌, ◌/◌, ◌%◌, ◌≤◌, ◌<◌, Bool, true, cond, ◌&&◌, ◌≡◌, refl, eqb}
use mathlib.Core.List.{Memᴰ}
use Rattle.std.proofs.Common.{ap, sym, ◌∙◌, zero-add, zero-mul, add-zero, add-suc, suc-add, arith, eqb-true}
use Rattle.std.proofs.Math.Path.{subst}
use Rattle.std.proofs.Math.Nat.{zero-mod}
use Rattle.laws.specs.Euclid.{gcd_in, gcd}
use Rattle.laws.specs.Members.{both, every, at_each}
use Rattle.wcdma_shape.specs.Rectangle.{primes}
use Rattle.wcdma_setup.specs.Numbers.{no_divisor, is_prime, passes, next_in, next_q, q_of}
use Rattle.wcdma_setup.specs.Primes.{Next, next_is, next_low}

-- 89 is reached: p = 239, where 7 and 17 divide p - 1, row 19
pub q_reached : q_of 238 19 ≡ 89
unfolding gcd_in gcd no_divisor is_prime passes next_in next_q q_of
q_reached = refl

-- q has an inverse modulo m
pub record Unitary (m q : ℕ) : Type 0 where
  pub back : ℕ
  pub inverse : q * back % m ≡ 1

-- an inverse of a modulo m, by the extended Euclid; its product is tested, so nothing is proved of it
inv_in : ℕ → ℕ → ℕ → ℕ → ℕ → ℕ → ℕ
inv_in zero m a b x y = x
inv_in (suc n) m a b x y =
    let next = inv_in n m b (a % b) y ((x + (m - a / b % m) * y) % m) in
    cond (eqb b 0) x next

inv : ℕ → ℕ → ℕ
inv m a = inv_in 20 m a m 1 0

ok_q : ℕ → ℕ → ℕ → Bool
ok_q m q zero = true
ok_q m q (suc n) = eqb (q * inv m q % m) 1 && ok_q m (next_q m q) n

numbers_tested : every (λ p. ok_q (p - 1) 1 20) primes ≡ true
unfolding primes gcd_in gcd no_divisor is_prime passes next_in next_q inv inv_in ok_q
numbers_tested = refl

q_ok : (m n x : ℕ) → ok_q m (q_of m x) n ≡ true → (i : ℕ) → i < n → Unitary m (q_of m (x + i))
unfolding ok_q q_of
q_ok m zero x t i l = absurd (omega arith)
q_ok m (suc n) x t zero l =
    subst (λ (y : ℕ). Unitary m (q_of m y)) (sym (add-zero x))
    (record { back = inv m (q_of m x); inverse = eqb-true (q_of m x * inv m (q_of m x) % m) 1 (both (eqb (q_of m x * inv m (q_of m x) % m) 1) _ t).0 })
q_ok m (suc n) x t (suc i) l =
    subst (λ (y : ℕ). Unitary m (q_of m y)) (suc-add x i ∙ sym (add-suc x i))
    (q_ok m n (suc x) (both (eqb (q_of m x * inv m (q_of m x) % m) 1) _ t).1 i (omega arith))

module _ {p : ℕ} (m : Memᴰ p primes) where
  pub q_unit : (i : ℕ) → i < 20 → Unitary (p - 1) (q_of (p - 1) i)
  unfolding q_of
  q_unit i l =
      subst (λ (y : ℕ). Unitary (p - 1) (q_of (p - 1) y)) (zero-add i)
      (q_ok (p - 1) 20 0 (at_each (λ p. ok_q (p - 1) 1 20) primes numbers_tested m) i l)

  pub q_found : (i : ℕ) → i < 20 → q_of (p - 1) i ≡ 0 → ⊥
  q_found i l e =
      let u = q_unit i l in
      let z : ◌≡◌ {A = ℕ} 0 1 = sym (ap (λ (x : ℕ). x % (p - 1)) (ap (λ (x : ℕ). x * u.back) e ∙ zero-mul u.back) ∙ zero-mod (p - 1)) ∙ u.inverse in
      omega arith

  -- each next q is the least prime above 6 and above the last with no common divisor with p - 1, and the search for it ends by 89
  pub q_ends : (i : ℕ) → suc i < 20 → Next (p - 1) (q_of (p - 1) i) (q_of (p - 1) (suc i)) × (q_of (p - 1) (suc i) ≤ 89)
  unfolding q_of
  q_ends i l = (next_is (p - 1) (q_of (p - 1) i) (q_found (suc i) l), next_low (p - 1) (q_of (p - 1) i))
