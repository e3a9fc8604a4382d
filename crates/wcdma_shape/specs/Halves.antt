-- The second half of S: halfway the power of the root is p - 1, so each power from there on is p less the one that stands as far from the
-- first. One computed test over the 52 primes. Rests on Roots.
use Prim.Native.Nat.{ℕ, zero, suc, ◌+◌, ◌*◌, ◌-◌, ◌/◌, ◌%◌, ◌<◌}
use Rattle.std.specs.Prelude.{Bool, true, ◌&&◌, ◌≡◌, refl, eqb}
use Rattle.std.proofs.Math.Path.{ap, sym}
use Rattle.std.proofs.Common.{◌∙◌, zero-add, suc-add, one-mul, mul_assoc, arith, eqb-true}
use Rattle.std.proofs.Math.Nat.{mod-eq_of_lt, mod-mod}
use Rattle.laws.specs.Digits.{less_one, low}
use Rattle.laws.specs.Members.{both, every, at_each}
use Rattle.laws.specs.Residue.{mul_mod}
use Rattle.laws.specs.Units.{mul_mod_in}
use Rattle.wcdma_shape.specs.Rectangle.{primes, prime}
use Rattle.wcdma_shape.specs.Powers.{power, first_one, generates, root_from, root}
use Rattle.wcdma_shape.specs.Roots.{Root, prime_root, power_lt, power_pos}
use Rattle.wcdma_shape.specs.Shape.{prime_listed}

-- p is odd, and halfway the power of its root is p - 1
ok_half : ℕ → Bool
ok_half p = eqb (p % 2) 1 && eqb (power p (root p) ((p - 1) / 2)) (p - 1)

halves_tested : every ok_half primes ≡ true
unfolding ok_half primes root root_from generates first_one power
halves_tested = refl

halfway : (k : ℕ) → (prime k % 2 ≡ 1) × (power (prime k) (root (prime k)) ((prime k - 1) / 2) ≡ prime k - 1)
unfolding ok_half
halfway k =
    let p = prime k in
    let t = both (eqb (p % 2) 1) (eqb (power p (root p) ((p - 1) / 2)) (p - 1)) (at_each ok_half primes halves_tested (prime_listed k)) in
    (eqb-true (p % 2) 1 t.0, eqb-true (power p (root p) ((p - 1) / 2)) (p - 1) t.1)

pub prime_odd : (k : ℕ) → prime k % 2 ≡ 1
prime_odd k = (halfway k).0

-- a number from 1 to p - 1, times p - 1, is p less it
opposite : (p a : ℕ) → 0 < a → a < p → a * (p - 1) % p ≡ p - a
opposite p a h l =
    let e : a * (p - 1) ≡ p * (a - 1) + (p - a) = omega (arith, less_one p a (omega arith), less_one a p h) in
    ap (λ (z : ℕ). z % p) e ∙ low p (a - 1) (omega arith)

module _ {p v : ℕ} (r : Root p v) where
  -- a power to a sum
  power_add : (x y : ℕ) → power p v (x + y) ≡ power p v x * power p v y % p
  unfolding power
  power_add zero y = ap (power p v) (zero-add y) ∙ sym (ap (λ (z : ℕ). z % p) (one-mul (power p v y)) ∙ mod-eq_of_lt (power_lt r y))
  power_add (suc x) y =
      ap (power p v) (suc-add x y)
      ∙ ap (λ (z : ℕ). v * z % p) (power_add x y)
      ∙ mul_mod_in v (power p v x * power p v y) p
      ∙ ap (λ (z : ℕ). z % p) (sym (mul_assoc v (power p v x) (power p v y)))
      ∙ mul_mod p (v * power p v x) (v * power p v x % p) (power p v y) (sym (mod-mod (v * power p v x) p))

  -- where a power is p - 1, the powers behind it are those from the first on, taken from p
  pub behind : (h : ℕ) → power p v h ≡ p - 1 → (x : ℕ) → power p v (x + h) ≡ p - power p v x
  behind h e x =
      power_add x h ∙ ap (λ (z : ℕ). power p v x * z % p) e ∙ opposite p (power p v x) (power_pos r x) (power_lt r x)

-- S(x + (p - 1)/2) = p - S(x)
pub second_half : (k x : ℕ) → power (prime k) (root (prime k)) (x + (prime k - 1) / 2) ≡ prime k - power (prime k) (root (prime k)) x
second_half k x = behind (prime_root k) ((prime k - 1) / 2) (halfway k).1 x
