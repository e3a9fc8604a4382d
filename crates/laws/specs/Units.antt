-- Products modulo m: a factor that has an inverse can be undone.
use Rattle.std.specs.Prelude.{ℕ, ◌+◌, ◌*◌, ◌/◌, ◌%◌, ◌<◌, ◌≡◌}
use Rattle.std.proofs.Common.{ap, sym, ◌∙◌, mul-add, mul_left_comm, mul_comm, mul_assoc, mul-one, mod-eq_of_lt}
use Rattle.std.proofs.Math.Nat.{mod-add-div, add-mul-mod_self_left}

pub mul_mod_in : (a b m : ℕ) → a * (b % m) % m ≡ a * b % m
mul_mod_in a b m =
    sym (ap (λ (x : ℕ). a * x % m) (sym (mod-add-div b m))
    ∙ ap (λ (x : ℕ). x % m) (mul-add a (b % m) (m * (b / m)) ∙ ap (λ (x : ℕ). a * (b % m) + x) (mul_left_comm a m (b / m)))
    ∙ add-mul-mod_self_left (a * (b % m)) m (a * (b / m)))

-- a factor a that has an inverse b modulo m is undone by it
pub undo : (a b m x : ℕ) → a * b % m ≡ 1 → x < m → b * (a * x % m) % m ≡ x
undo a b m x e h =
    mul_mod_in b (a * x) m
    ∙ ap (λ (y : ℕ). y % m) (mul_left_comm b a x ∙ sym (mul_assoc a b x) ∙ mul_comm (a * b) x)
    ∙ sym (mul_mod_in x (a * b) m)
    ∙ ap (λ (y : ℕ). x * y % m) e
    ∙ ap (λ (y : ℕ). y % m) (mul-one x)
    ∙ mod-eq_of_lt h

-- so different numbers have different products
pub undo_inj : (a b m x y : ℕ) → a * b % m ≡ 1 → x < m → y < m → a * x % m ≡ a * y % m → x ≡ y
undo_inj a b m x y e h l q = sym (undo a b m x e h) ∙ ap (λ (z : ℕ). b * z % m) q ∙ undo a b m y e l
