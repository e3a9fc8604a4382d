-- What the tables of the rows are given, read as the definition's numbers.
use Prim.Native.Nat.{ℕ, ◌*◌, ◌-◌, ◌%◌}
use mathlib.Core.Path.{◌≡◌, sym, ◌∙◌}
use Rattle.laws.specs.Units.{mul_mod_in}

pub fall_is : {v p q p' q' : ℕ} → v ≡ p - 1 - q % (p - 1) → q ≡ q' → p ≡ p' → v ≡ p' - 1 - q' % (p' - 1)
fall_is e a b = rw (sym a, sym b) e

pub start_is : {v p q p' q' : ℕ} (n : ℕ) → v ≡ n * (q % (p - 1)) % (p - 1) → q ≡ q' → p ≡ p' → v ≡ n * q' % (p' - 1)
start_is {v} {p} {q} n e a b = rw (sym a, sym b) (e ∙ mul_mod_in n q (p - 1))
