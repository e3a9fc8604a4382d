-- Full rectangles, C = p + 1 and K = R-as-C: the exchange of columns 0 and p undoes itself, the row that it is made in has T(i) = R - 1, and what
-- stands in the two cells that it touches. Rests on Turbo and the shape; one computed test over the row orders.
use Prim.Native.Nat.{ℕ, suc, ◌+◌, ◌*◌, ◌-◌, ◌<◌}
use Rattle.std.specs.Prelude.{Bool, ◌&&◌, ◌≡◌, ltb}
use Rattle.std.proofs.Math.Bool.{true, false, cond}
use Rattle.std.proofs.Math.Path.{refl, ap}
use Rattle.std.proofs.Common.{sym, ◌∙◌, one-mul}
use Rattle.std.proofs.Math.Nat.{suc-mul, zero-mul, zero-mod, mul_comm, add-mul}
use native.Mathlib.Omega.{arith}
use Rattle.std.proofs.Math.Decide.{ℕ_discrete}
use Rattle.std.proofs.Math.Dec.{eqb}
use Rattle.std.proofs.Math.ListN.{get_or}
use borrow.Author.Tests.{eqb-true, eq-eqb, ne_eqb, ltb-false, lt-ltb, le-ltb}
use Rattle.laws.specs.Members.{both, every, at_each}
use Rattle.wcdma_shape.specs.Rectangle.{rows, prime, cols, cells}
use Rattle.wcdma_shape.specs.Powers.{power}
use Rattle.wcdma_shape.specs.Orders.{row_orders, order_of, row_at, order_listed}
use Rattle.wcdma_shape.specs.Shape.{choice, rows_pos, rows_le, prime_big}
use Rattle.wcdma.specs.Turbo.{entry, full, exchanged, column, origin}

-- the exchange undoes itself
pub exchange_back : (a b j : ℕ) → exchanged a b (exchanged a b j) ≡ j
exchange_back a b j = go (ℕ_discrete j a) (ℕ_discrete j b)
  where
    from_b : Dec (b ≡ a) → j ≡ a → exchanged a b b ≡ j
    from_b (yes e) h = rw (eq-eqb b a e) (e ∙ sym h)
    from_b (no e) h = rw (ne_eqb b a e, eq-eqb b b refl) (sym h)

    go : Dec (j ≡ a) → Dec (j ≡ b) → exchanged a b (exchanged a b j) ≡ j
    go (yes h) l = rw (eq-eqb j a h) (from_b (ℕ_discrete b a) h)
    go (no h) (yes l) = rw (ne_eqb j a h, eq-eqb j b l, eq-eqb a a refl) (sym l)
    go (no h) (no l) = rw (ne_eqb j a h, ne_eqb j b l) (rw (ne_eqb j a h, ne_eqb j b l) refl)

firsts : every (λ o. eqb (get_or o 0 0) 19) row_orders ≡ true
unfolding row_orders
firsts = refl

module _ (k : ℕ) where
  -- T(0) = R - 1, in every row order
  pub first_row : row_at k 0 ≡ rows k - 1
  unfolding row_at
  first_row =
      let a = rows_le k in
      choice (λ r. r ≡ rows k - 1) (ltb (rows k) 20) _ _ (λ e. omega arith)
      (λ e. let b = ltb-false (rows k) 20 e in
      let c : get_or (order_of k) 0 0 ≡ 19 = eqb-true (get_or (order_of k) 0 0) 19 (at_each (λ o. eqb (get_or o 0 0) 19) row_orders firsts (order_listed k)) in
      omega arith)

  -- row 0 of a full rectangle takes columns 0 and p exchanged
  pub row_takes : full k ≡ true → (j : ℕ) → column k 0 j ≡ exchanged 0 (prime k) j
  unfolding column
  row_takes f j = rw f

  -- the other rows take their own columns, and so do all rows of a rectangle that is not full
  pub row_keeps : full k ≡ true → (i j : ℕ) → (i ≡ 0 → ⊥) → column k i j ≡ j
  unfolding column
  row_keeps f i j n = rw (f, ne_eqb i 0 n)

  pub all_keep : full k ≡ false → (i j : ℕ) → column k i j ≡ j
  unfolding column
  all_keep f i j = rw f

  -- the column that a cell takes, taken again, is the cell's own
  pub column_back : (i j : ℕ) → column k i (column k i j) ≡ j
  unfolding column
  column_back i j = go (full k && eqb i 0)
    where
      go : (t : Bool) → cond t (exchanged 0 (prime k) (cond t (exchanged 0 (prime k) j) j)) (cond t (exchanged 0 (prime k) j) j) ≡ j
      go true = exchange_back 0 (prime k) j
      go false = refl

  pub full_cols : full k ≡ true → cols k ≡ prime k + 1
  unfolding full
  full_cols f = eqb-true (cols k) (prime k + 1) (both (eqb (cols k) (prime k + 1)) (eqb k (cells k)) f).0

  pub full_cells : full k ≡ true → k ≡ cells k
  unfolding full
  full_cells f = eqb-true k (cells k) (both (eqb (cols k) (prime k + 1)) (eqb k (cells k)) f).1

  -- and it is one of the columns
  pub column_lt : (i j : ℕ) → j < cols k → column k i j < cols k
  unfolding column
  column_lt i j l =
      choice (λ x. x < cols k) (full k && eqb i 0) _ _
      (λ e. choice (λ x. x < cols k) (eqb j 0) _ _ (λ a. omega (arith, full_cols (both (full k) (eqb i 0) e).0))
      (λ a. choice (λ x. x < cols k) (eqb j (prime k)) _ _ (λ b. omega arith) (λ b. l)))
      (λ e. l)

  module _ (f : full k ≡ true) where
    -- K by its last column, and by its last row
    pub last_column : k ≡ prime k * rows k + rows k
    unfolding cells
    last_column =
        full_cells f ∙ ap (λ (c : ℕ). rows k * c) (full_cols f)
        ∙ mul_comm (rows k) (prime k + 1) ∙ add-mul (prime k) 1 (rows k) ∙ ap (λ (x : ℕ). prime k * rows k + x) (one-mul (rows k))

    pub last_row : k ≡ (rows k - 1) * (prime k + 1) + (prime k + 1)
    unfolding cells
    last_row =
        full_cells f ∙ ap (λ (c : ℕ). rows k * c) (full_cols f)
        ∙ ap (λ (r : ℕ). r * (prime k + 1)) (let h = rows_pos k in let e : rows k ≡ suc (rows k - 1) = omega arith in e)
        ∙ suc-mul (rows k - 1) (prime k + 1)

    row_begins : row_at k 0 * cols k ≡ (rows k - 1) * (prime k + 1)
    row_begins = rw (first_row, full_cols f)

    -- row 0 with U(p) and with U(0)
    pub origin_last : origin k 0 (prime k) ≡ k - 1
    unfolding origin entry
    origin_last =
        let b = prime_big k in
        rw (row_begins, full_cols f, ne_eqb (prime k + 1) (prime k - 1) (λ e. omega arith), le-ltb (prime k) (prime k - 1) (omega arith), ne_eqb (prime k) (prime k - 1) (λ e. omega arith))
        (omega (arith, last_row))

    pub origin_first : origin k 0 0 ≡ k - prime k
    unfolding origin entry power
    origin_first =
        let b = prime_big k in
        rw (row_begins, full_cols f, ne_eqb (prime k + 1) (prime k - 1) (λ e. omega arith), lt-ltb 0 (prime k - 1) (omega arith), zero-mul, zero-mod)
        (omega (arith, last_row))
