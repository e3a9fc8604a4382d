-- A cell by its row i and column j, and the exponents of the rows as the walk goes from one cell to the next.
use Prim.Native.Nat.{ℕ, ◌+◌, ◌*◌, ◌-◌, ◌/◌, ◌%◌, ◌≤◌, ◌<◌}
use mathlib.Core.Bool.{Bool, true, false}
use mathlib.Core.List.{List}
use mathlib.Core.Path.{◌≡◌, refl, ap, sym, ◌∙◌, subst}
use native.Mathlib.Nat.{mul-le-mul_right, suc-mul, mul_comm, add-mul, one-mul, add-mod, mod-lt, sub-zero}
use native.Mathlib.Decide.{ℕ_discrete}
use native.Mathlib.Omega.{arith}
use lib.Arith.{digits_div, digits_mod}
use lib.Dec.{ltb, eqb}
use lib.ListN.{get_or, set, length-set}
use lib.Seq.{get_or-set_same, get_or-set_other}
use borrow.Author.Tests.{lt-ltb, le-ltb, ltb-true, ltb-false, eqb-true}
use Rattle.wcdma_shape.specs.Rectangle.{rows, prime, cols, cells}
use Rattle.wcdma_shape.specs.Powers.{root}
use Rattle.wcdma_setup.specs.Numbers.{q_of}
use Rattle.wcdma_shape.specs.Orders.{row_at}
use Rattle.wcdma_shape.specs.Shape.{rows_pos, rows_le, prime_big}
use Rattle.wcdma_powers.specs.Post.{short_by}
use Rattle.wcdma.specs.Turbo.{entry, entry_with, origin}
use Rattle.wcdma.specs.Laid.{next_col, Exponents, plain}
use Rattle.wcdma_cells.specs.Post.{entry_at}

module _ (k : ℕ) where
  -- cell n is at row i of column j
  pub record Place (n i j : ℕ) : Type 0 where
    pub at : n ≡ j * rows k + i
    pub row : i < rows k

  pub place_down : {n i j : ℕ} → Place n i j → (i + 1 ≡ rows k → ⊥) → Place (n + 1) (i + 1) j
  place_down {n} {i} {j} p h = let z : ¬ (i + 1 ≡ rows k) = h in record { at = omega (arith, p.at); row = omega (arith, p.row) }

  pub place_over : {n i j : ℕ} → Place n i j → i + 1 ≡ rows k → Place (n + 1) 0 (j + 1)
  place_over {n} {i} {j} p h = record { at = omega (arith, p.at, add-mul j 1 (rows k), one-mul (rows k)); row = rows_pos k }

  -- the address there
  pub place_address : {n i j : ℕ} → Place n i j → plain k n ≡ row_at k i * cols k + entry (prime k) (root (prime k)) (cols k) (q_of (prime k - 1) i) j
  unfolding plain origin
  place_address {n} {i} {j} p = rw (mod_is, div_is)
    where
      mod_is : n % rows k ≡ i
      mod_is = ap (λ (x : ℕ). x % rows k) p.at ∙ digits_mod j p.row

      div_is : n / rows k ≡ j
      div_is = ap (λ (x : ℕ). x / rows k) p.at ∙ digits_div j p.row

  -- a place in a column of the block is within the block, and behind the last column it is behind the block
  pub place_inside : {n i j : ℕ} → Place n i j → j < cols k → n < cells k
  unfolding cells
  place_inside {n} {i} {j} p h = omega (arith, p.at, p.row, mul-le-mul_right (rows k) h, suc-mul j (rows k), mul_comm (rows k) (cols k))

  pub place_behind : {n i j : ℕ} → Place n i j → cols k ≤ j → cells k ≤ n
  unfolding cells
  place_behind {n} {i} {j} p h = omega (arith, p.at, mul-le-mul_right (rows k) h, mul_comm (rows k) (cols k))

  -- the exponent of the row where the walk stands
  pub exponent : {i j : ℕ} {at : List ℕ} → Exponents k i j at → i < rows k → get_or at i 0 ≡ j * q_of (prime k - 1) i % (prime k - 1)
  exponent {i} {j} {at} e h = e.each i h ∙ rw (le-ltb i i (omega arith))

  pub exponent_lt : {i j : ℕ} {at : List ℕ} → Exponents k i j at → i < rows k → get_or at i 0 < prime k - 1
  exponent_lt {i} {j} {at} e h = rw (exponent e h) (let b = prime_big k in mod-lt _ (omega arith))

  -- an exponent that was raised by its step belongs to the next column
  pub raised : (j q x step v : ℕ) → x ≡ j * q % (prime k - 1) → step ≡ q % (prime k - 1) → v ≡ (x + step) % (prime k - 1) → v ≡ (j + 1) * q % (prime k - 1)
  raised j q x step v a b e =
      e ∙ rw (a, b) (sym (add-mod (j * q) q (prime k - 1))) ∙ ap (λ (y : ℕ). y % (prime k - 1)) (sym (add-mul j 1 q ∙ ap (λ (y : ℕ). j * q + y) (one-mul q)))

  module _ {i j : ℕ} {at : List ℕ} (e : Exponents k i j at) (h : i < rows k) (v : ℕ) (w : v ≡ (j + 1) * q_of (prime k - 1) i % (prime k - 1)) where
    stored : (x : ℕ) → x < rows k → get_or (set at i v) x 0 ≡ next_col (i + 1) j x * q_of (prime k - 1) x % (prime k - 1)
    stored x l = go (ℕ_discrete x i)
      where
        go : Dec (x ≡ i) → get_or (set at i v) x 0 ≡ next_col (i + 1) j x * q_of (prime k - 1) x % (prime k - 1)
        go (yes q) = rw q (let r = rows_le k in get_or-set_same at i v 0 (omega (arith, e.long)) ∙ rw (lt-ltb i (i + 1) (omega arith)) w)
        go (no q) = get_or-set_other at i x v 0 q ∙ e.each x l ∙ ap (λ (y : ℕ). y * q_of (prime k - 1) x % (prime k - 1)) (same (ltb x i) refl)
          where
            same : (b : Bool) → ltb x i ≡ b → next_col i j x ≡ next_col (i + 1) j x
            same true f = rw (f, lt-ltb x (i + 1) (omega (arith, ltb-true x i f)))
            same false f = rw (f, le-ltb x (i + 1) (let z : ¬ (x ≡ i) = q in omega (arith, ltb-false x i f)))

    pub exponents_down : Exponents k (i + 1) j (set at i v)
    exponents_down = record { long = length-set at i v ∙ e.long; each = stored }

  -- past the last row the walk stands at the next column
  pub exponents_top : {j : ℕ} {at : List ℕ} → Exponents k (rows k) j at → Exponents k 0 (j + 1) at
  exponents_top {j} {at} e = record { long = e.long; each = λ x l. e.each x l ∙ rw (lt-ltb x (rows k) l, le-ltb x 0 (omega arith)) }

-- where there are p - 1 columns each number is one less than its power
pub entry_short : (p c s j : ℕ) → j < c → entry_with p c s j ≡ entry_at p (s - short_by c p) j
entry_short p c s j h = go (eqb c (p - 1)) refl
  where
    go : (b : Bool) → eqb c (p - 1) ≡ b → entry_with p c s j ≡ entry_at p (s - short_by c p) j
    go true f = rw f (rw (lt-ltb j (p - 1) (let e = eqb-true c (p - 1) f in omega arith)))
    go false f = rw (f, sub-zero)

pub exponents_to : {k i h j : ℕ} {at : List ℕ} → i ≡ h → Exponents k i j at → Exponents k h j at
exponents_to {k} {i} {h} {j} {at} e x = subst (λ (y : ℕ). Exponents k y j at) e x
