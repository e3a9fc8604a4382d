-- The powers by halves: one more of the second half, and both together.
use Prim.Native.Nat.{ℕ, ◌+◌, ◌-◌, ◌/◌, ◌≤◌, ◌<◌}
use mathlib.Core.List.{List}
use mathlib.Core.Logic.{⊎_elim}
use mathlib.Core.Path.{◌≡◌, ap, sym, ◌∙◌}
use native.Mathlib.Decide.{dec_lt}
use native.Mathlib.Nat.{eq-or-lt_of_le}
use native.Mathlib.Omega.{arith}
use lib.ListN.{get_or, length, set}
use lib.Seq.{get_or-set_same, get_or-set_other}
use Rattle.wcdma_powers.specs.Post.{HalvesOf, PowersIn}
use Rattle.wcdma_shape.specs.Powers.{power}
use Rattle.wcdma_shape.specs.Roots.{power_lt, power_pos}

pub one_more : {top half x : ℕ} {s₀ s : List ℕ} (a : ℕ) → HalvesOf top half x s₀ s → x < half → half + half ≤ length s → a ≡ top - get_or s x 0
    → HalvesOf top half (x + 1) s₀ (set s (half + x) a)
one_more {top} {half} {x} {s₀} {s} a r l h e =
    record {
      first = λ y k. get_or-set_other s (half + x) y a 0 (λ w. omega arith) ∙ r.first y k;
      second = λ y k.
          ⊎_elim
          (λ (q : y ≡ x). rw q (get_or-set_same s (half + x) a 0 (omega arith) ∙ e ∙ ap (λ (z : ℕ). top - z) (r.first x l)))
          (λ q. get_or-set_other s (half + x) (half + y) a 0 (λ w. omega arith) ∙ r.second y q)
          (eq-or-lt_of_le {n = y} {m = x} (omega arith));
    }

-- of two numbers that add up to p, the one from the other, both less as much
rest : (p a b less : ℕ) → a + b ≡ p → less ≤ a → less ≤ b → p - less - less - (a - less) ≡ b - less
rest p a b less e h l = omega arith

-- the powers, by halves
module _ {p v less : ℕ} {s₀ : List ℕ} (z : PowersIn p v less s₀) where
  -- two that are half of the powers apart add up to p
  half_apart : (x : ℕ) → power p v x + power p v (x + (p - 1) / 2) ≡ p
  half_apart x = omega (arith, z.second x, power_lt z.root x)

  -- the first half, and each of it taken from p, are all of them
  pub both_halves : {s after : List ℕ} → ((x : ℕ) → x < (p - 1) / 2 → get_or s x 0 ≡ power p v x - less) → HalvesOf (p - less - less) ((p - 1) / 2) ((p - 1) / 2) s after
      → (x : ℕ) → x < p - 1 → get_or after x 0 ≡ power p v x - less
  both_halves {s} {after} e r x l = go (dec_lt x ((p - 1) / 2))
    where
      go : Dec (x < (p - 1) / 2) → get_or after x 0 ≡ power p v x - less
      go (yes h) = r.first x h ∙ e x h
      go (no h) =
          let half = (p - 1) / 2 in
          let y = x - half in
          let far : half + y ≡ x = omega arith in
          let near : y < half = omega (arith, z.odd) in
          let sum : power p v y + power p v x ≡ p = ap (λ (i : ℕ). power p v y + power p v i) (let w : x ≡ y + half = omega arith in w) ∙ half_apart y in
          ap (λ (i : ℕ). get_or after i 0) (sym far)
          ∙ r.second y near
          ∙ ap (λ (i : ℕ). p - less - less - i) (e y near)
          ∙ rest p (power p v y) (power p v x) less sum (omega (arith, power_pos z.root y, z.least)) (omega (arith, power_pos z.root x, z.least))
