-- The reads of one cell, and how a walk goes on by a cell or by a column. Rests on Place.
use Prim.Native.Nat.{ℕ, ◌+◌, ◌*◌, ◌-◌, ◌%◌, ◌≤◌, ◌<◌}
use mathlib.Core.List.{List}
use mathlib.Core.Path.{◌≡◌, refl, ap, sym, ◌∙◌, subst}
use native.Mathlib.Nat.{add-mul, one-mul, mod-lt, suc-mul, mul-le-mul_right, mul_comm}
use native.Mathlib.Omega.{arith}
use lib.ListN.{get_or, set}
use borrow.Author.Tests.{lt-ltb, le-ltb}
use Rattle.laws.specs.Once.{inside}
use Rattle.laws.specs.Written.{Written, put_as, skipped}
use Rattle.wcdma_shape.specs.declared.Shape.{Shape}
use Rattle.wcdma_shape.specs.Rectangle.{rows, prime, cols, cells}
use Rattle.wcdma_shape.specs.Powers.{power, root}
use Rattle.wcdma_setup.specs.Numbers.{q_of}
use Rattle.wcdma_shape.specs.Orders.{row_at}
use Rattle.wcdma_shape.specs.Shape.{rows_pos, rows_le, prime_big, prime_small}
use Rattle.wcdma.specs.Turbo.{entry}
use Rattle.wcdma.specs.Laid.{plain}
use Rattle.wcdma_cells.specs.Post.{entry_at, CellIn, Goes}
use Rattle.wcdma_cells.proofs.Place.{Place, place_address, exponent, exponent_lt, raised, entry_short}

-- the reads of a cell, at row i of column j
module _ {y : Shape} {i j n : ℕ} {s base fall e out : List ℕ} (z : CellIn y i j n s base fall e out) where
  here : Place y.k (j * rows y.k + i) i j
  here = record { at = refl; row = z.row }

  pub cell_inside : j * rows y.k + i < cells y.k
  unfolding cells
  cell_inside = omega (arith, z.row, mul-le-mul_right (rows y.k) z.column, suc-mul j (rows y.k), mul_comm (rows y.k) (cols y.k))

  pub row_small : i < 20
  row_small = omega (arith, z.row, rows_le y.k)

  pub exponent_small : get_or e i 0 < 256
  exponent_small = omega (arith, exponent_lt y.k z.exponents z.row, prime_small y.k)

  pub prime_pos : 0 < y.p
  prime_pos = omega (arith, prime_big y.k, z.shape.prime_is)

  pub address_is : (x u : ℕ) → x ≡ get_or s (get_or e i 0) 0 → u ≡ entry_at y.p x j → get_or base i 0 + u ≡ plain y.k (j * rows y.k + i)
  unfolding entry
  address_is x u g f =
      let a = z.shape.prime_is in
      rw (f, g, a, z.tables.rows_are.bases i z.row, z.tables.powers (get_or e i 0) (exponent_lt y.k z.exponents z.row), exponent y.k z.exponents z.row)
      (ap (λ (t : ℕ). row_at y.k i * cols y.k + t) (sym (entry_short (prime y.k) (cols y.k) (power (prime y.k) (root (prime y.k)) (j * q_of (prime y.k - 1) i % (prime y.k - 1))) j z.column)) ∙ sym (place_address y.k here))

  rise_lt : q_of (prime y.k - 1) i % (prime y.k - 1) < prime y.k - 1
  rise_lt = let g = prime_big y.k in mod-lt _ (omega arith)

  pub exponent_in : (get_or e i 0 < y.p - 1) × (0 < get_or fall i 0) × (get_or fall i 0 ≤ y.p - 1) × (y.p - 1 < 257)
  exponent_in =
      let a = z.shape.prime_is in
      let x = exponent_lt y.k z.exponents z.row in
      let w₁ = z.tables.rows_are.falls i z.row in
      let r = rise_lt in
      let w = prime_small y.k in
      omega arith

  pub raised_is : (v : ℕ) → v ≡ (get_or e i 0 + (y.p - 1 - get_or fall i 0)) % (y.p - 1) → v ≡ (j + 1) * q_of (prime y.k - 1) i % (prime y.k - 1)
  raised_is v f =
      let a = z.shape.prime_is in
      let r = rise_lt in
      let w₁ = z.tables.rows_are.falls i z.row in
      raised y.k j (q_of (prime y.k - 1) i) (get_or e i 0) (prime y.k - 1 - get_or fall i 0) v (exponent y.k z.exponents z.row) (omega arith) (rw a at f)

  -- the walk goes one cell on: the address is written, or passed over
  pub goes_put : (a : ℕ) → a ≡ plain y.k (j * rows y.k + i) → a < y.k → Goes y.k (j * rows y.k + i) out n (j * rows y.k + i + 1) (set out n a) (n + 1)
  goes_put a f h c₀ o w = put_as _ _ _ _ _ a w cell_inside (omega (arith, z.room, w.size)) f (lt-ltb a y.k h)

  pub goes_skip : (a : ℕ) → a ≡ plain y.k (j * rows y.k + i) → y.k ≤ a → Goes y.k (j * rows y.k + i) out n (j * rows y.k + i + 1) out n
  goes_skip a f h c₀ o w = skipped _ _ _ _ _ w cell_inside (omega (arith, z.room, w.size)) (le-ltb (plain y.k (j * rows y.k + i)) y.k (rw f at h))

-- the walk goes on from a place by one cell
pub cell_on : {k n i j c₀ m m' : ℕ} {o out out' : List ℕ} → Place k n i j → Goes k (j * rows k + i) out m (j * rows k + i + 1) out' m'
    → Written (plain k) (inside k) (cells k) c₀ o n out m → Written (plain k) (inside k) (cells k) c₀ o (n + 1) out' m'
cell_on {k} {n} {i} {j} {c₀} {m} {m'} {o} {out} {out'} p g w =
    subst (λ (x : ℕ). Written (plain k) (inside k) (cells k) c₀ o (x + 1) out' m') (sym p.at)
    (g c₀ o (subst (λ (x : ℕ). Written (plain k) (inside k) (cells k) c₀ o x out m) p.at w))

-- and from the first row by a column
module _ {k r n i j : ℕ} (p : Place k n i j) (z : i ≡ 0) (er : r ≡ rows k) where
  first : n ≡ j * rows k
  first = omega (arith, p.at)

  pub column_on : {c₀ m m' : ℕ} {o out out' : List ℕ} → Goes k (j * rows k) out m (j * rows k + rows k) out' m'
      → Written (plain k) (inside k) (cells k) c₀ o n out m → Written (plain k) (inside k) (cells k) c₀ o (n + r) out' m'
  column_on {c₀} {m} {m'} {o} {out} {out'} g w =
      subst (λ (x : ℕ). Written (plain k) (inside k) (cells k) c₀ o x out' m') (let e : j * rows k + rows k ≡ n + r = omega (arith, first, er) in e)
      (g c₀ o (subst (λ (x : ℕ). Written (plain k) (inside k) (cells k) c₀ o x out m) first w))

  pub place_on : Place k (n + r) i (j + 1)
  place_on = record { at = omega (arith, first, er, z, add-mul j 1 (rows k), one-mul (rows k)); row = omega (arith, z, rows_pos k) }
