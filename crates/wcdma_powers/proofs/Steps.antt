-- One turn of the loop that makes S, and the sums of its step.
use Prim.Native.Nat.{ℕ, ◌+◌, ◌*◌, ◌%◌, ◌<◌}
use mathlib.Core.Bool.{true, or-false}
use mathlib.Core.List.{List, [], ◌∷◌}
use mathlib.Core.Path.{◌≡◌, ap, sym, ◌∙◌}
use native.Mathlib.Nat.{add-mod, add-mul, one-mul, mod-eq_of_lt, mod-lt}
use native.Mathlib.Omega.{arith}
use native.Mathlib.Numerals.{add-one}
use Rattle.laws.specs.Members.{All, by_member, one_of_lem}
use Rattle.wcdma_shape.specs.Powers.{power, is_table_root}

pub power_next : (p v x last : ℕ) → last ≡ power p v x → v * last % p ≡ power p v (x + 1)
unfolding power
power_next p v x last e = rw (e, add-one)

-- a is n times x modulo p
pub record Times (p x n a : ℕ) : Type 0 where
  pub is : a ≡ n * x % p
  pub low : a < p

pub once : {p x : ℕ} → x < p → Times p x 1 x
once {p} {x} h = record { is = sym (ap (λ (y : ℕ). y % p) (one-mul x) ∙ mod-eq_of_lt h); low = h }

-- a sum modulo p of what is m times and n times x is m + n times x
pub times_sum : {p x m n a b r : ℕ} → Times p x m a → Times p x n b → r ≡ (a + b) % p → Times p x (m + n) r
times_sum {p} {x} {m} {n} {a} {b} s t e =
    let h = s.low in
    record {
      is = e ∙ rw (s.is, t.is) (sym (add-mod (m * x) (n * x) p) ∙ ap (λ (y : ℕ). y % p) (sym (add-mul m n x)));
      low = rw e (mod-lt (a + b) (omega arith));
    }

-- the numbers that v can be: what holds of each holds of v
abbrev pub six : List ℕ
six = 2 ∷ 3 ∷ 5 ∷ 6 ∷ 7 ∷ 19 ∷ []

pub each_root : (P : ℕ → Type 0) → All P six → (v : ℕ) → is_table_root v ≡ true → P v
each_root P h v e = by_member P six h (one_of_lem v six (rw or-false e))
