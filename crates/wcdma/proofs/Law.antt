-- For every K each address from 0 to K - 1 stands exactly once in L, and L and M undo each other. Different cells have different addresses,
-- since different rows have different places T(i), one row has different entries, and the exchange of full rectangles undoes itself. Rests on Row,
-- Full, the shape and the set-up.
use Rattle.std.specs.Prelude.{ℕ, ◌+◌, ◌*◌, ◌-◌, ◌/◌, ◌%◌, ◌≤◌, ◌<◌, Bool, ◌≡◌, length}
use Rattle.std.proofs.Math.Bool.{true, false, cond}
use Rattle.std.proofs.Math.Path.{refl, ap, ap₂, sym}
use Rattle.std.proofs.Common.{◌∙◌, mod-lt, div-lt_iff_lt-mul, mul_comm}
use Rattle.std.proofs.Math.Nat.{div-add-mod'}
use native.Mathlib.Omega.{arith}
use Rattle.std.proofs.Math.Dec.{ltb}
use Rattle.std.proofs.Math.ListN.{get_or}
use Rattle.std.proofs.Math.Arith.{digits_lt, digits_div, digits_mod}
use borrow.Author.Tests.{ltb-false, lt-ltb}
use Rattle.laws.specs.Run.{run, run_get_or}
use Rattle.laws.specs.Perm.{Perm}
use Rattle.laws.specs.Once.{inside, count, once, kept}
use Rattle.laws.specs.Position.{position, kept_perm}
use Rattle.laws.specs.Walk.{Lawful}
use Rattle.wcdma_shape.specs.Rectangle.{rows, prime, cols, cells}
use Rattle.wcdma_shape.specs.Powers.{root}
use Rattle.wcdma_setup.specs.Numbers.{q_of}
use Rattle.wcdma_shape.specs.Orders.{order_of, row_at, order_perm, order_listed}
use Rattle.wcdma_shape.specs.Shape.{choice, rows_pos, rows_le, prime_listed, cols_low, cols_high, fits, cells_le}
use Rattle.wcdma_shape.specs.Roots.{prime_root}
use Rattle.wcdma_setup.proofs.Found.{q_unit}
use Rattle.wcdma.specs.Turbo.{entry, column, origin, address, addresses, turbo_l, turbo_m, turbo_rule}
use Rattle.wcdma.specs.Laid.{plain}
use Rattle.wcdma.specs.Full.{first_row, column_back, column_lt}
use Rattle.wcdma.specs.Row.{entry_lt, entry_inj}

module _ (k : ℕ) where
  -- T(i) is one of the rows
  pub row_lt : (i : ℕ) → i < rows k → row_at k i < rows k
  unfolding row_at
  row_lt i l =
      let a = rows_le k in
      choice (λ r. r < rows k) (ltb (rows k) 20) _ _ (λ e. omega arith)
      (λ e. omega (arith, ltb-false (rows k) 20 e, (order_perm (order_listed k)).l_below i (omega arith)))

  row_inj : (i j : ℕ) → i < rows k → j < rows k → row_at k i ≡ row_at k j → i ≡ j
  unfolding row_at
  row_inj i j l m q = go (ltb (rows k) 20) refl q
    where
      go : (b : Bool) → ltb (rows k) 20 ≡ b → cond b (rows k - 1 - i) (get_or (order_of k) i 0) ≡ cond b (rows k - 1 - j) (get_or (order_of k) j 0) → i ≡ j
      go true e q = omega arith
      go false e q =
          let a = rows_le k in
          let o = order_perm (order_listed k) in
          sym (o.m_of_l i (omega arith)) ∙ ap (λ (x : ℕ). position x (order_of k)) q ∙ o.m_of_l j (omega arith)

  -- no row but row 0 has T(i) = R - 1
  pub first_alone : (i : ℕ) → i < rows k → row_at k i ≡ rows k - 1 → i ≡ 0
  first_alone i l e = row_inj i 0 l (rows_pos k) (e ∙ sym (first_row k))

  -- a cell's column is one of the columns
  pub col_lt : (n : ℕ) → n < cells k → n / rows k < cols k
  unfolding cells
  col_lt n l = (div-lt_iff_lt-mul (rows_pos k)).1 (rw (mul_comm (rows k) (cols k)) at l)

  -- U(j) in row i
  u : ℕ → ℕ → ℕ
  u i j = entry (prime k) (root (prime k)) (cols k) (q_of (prime k - 1) i) j

  u_lt : (i j : ℕ) → i < rows k → j < cols k → u i j < cols k
  unfolding u
  u_lt i j h l =
      let a = rows_le k in
      entry_lt (prime k) (root (prime k)) (prime_root k) (q_of (prime k - 1) i) (q_unit (prime_listed k) i (omega arith)) (cols k) (cols_low k) (cols_high k) j l

  u_inj : (i j h : ℕ) → i < rows k → j < cols k → h < cols k → u i j ≡ u i h → j ≡ h
  unfolding u
  u_inj i j h m l o e =
      let a = rows_le k in
      entry_inj (prime k) (root (prime k)) (prime_root k) (q_of (prime k - 1) i) (q_unit (prime_listed k) i (omega arith)) (cols k) (cols_low k) (cols_high k) j h l o e

  -- T(i)·C + U(j) is below the cell total, and is so for one row and one column only
  pub origin_lt : (i j : ℕ) → i < rows k → j < cols k → origin k i j < cells k
  unfolding origin cells u
  origin_lt i j h l = digits_lt (row_lt i h) (u_lt i j h l)

  origin_inj : (i j x y : ℕ) → i < rows k → x < rows k → j < cols k → y < cols k → origin k i j ≡ origin k x y → (i ≡ x) × (j ≡ y)
  unfolding origin u
  origin_inj i j x y hi hx hj hy e = (same_row, u_inj i j y hi hj hy (same_u ∙ ap (λ (r : ℕ). u r y) (sym same_row)))
    where
      same_row : i ≡ x
      same_row =
          row_inj i x hi hx (sym (digits_div (row_at k i) (u_lt i j hi hj)) ∙ ap (λ (a : ℕ). a / cols k) e ∙ digits_div (row_at k x) (u_lt x y hx hy))

      same_u : u i j ≡ u x y
      same_u = sym (digits_mod (row_at k i) (u_lt i j hi hj)) ∙ ap (λ (a : ℕ). a % cols k) e ∙ digits_mod (row_at k x) (u_lt x y hx hy)

  cell_row : (n : ℕ) → n % rows k < rows k
  cell_row n = mod-lt n (rows_pos k)

  -- the column that a cell takes is one of the columns
  taken_lt : (n : ℕ) → n < cells k → column k (n % rows k) (n / rows k) < cols k
  taken_lt n l = column_lt k (n % rows k) (n / rows k) (col_lt n l)

  -- every address is below the cell total, with the exchange and without it
  pub plain_lt : (n : ℕ) → n < cells k → plain k n < cells k
  unfolding plain
  plain_lt n l = origin_lt (n % rows k) (n / rows k) (cell_row n) (col_lt n l)

  pub address_lt : (n : ℕ) → n < cells k → address k n < cells k
  unfolding address
  address_lt n l = origin_lt (n % rows k) (column k (n % rows k) (n / rows k)) (cell_row n) (taken_lt n l)

  -- different cells have different addresses: one row takes each column once, since the exchange undoes itself
  pub address_inj : (n m : ℕ) → n < cells k → m < cells k → address k n ≡ address k m → n ≡ m
  unfolding address
  address_inj n m l o e = sym (div-add-mod' n (rows k)) ∙ ap₂ (λ (x y : ℕ). x * rows k + y) same_col same.0 ∙ div-add-mod' m (rows k)
    where
      same : (n % rows k ≡ m % rows k) × (column k (n % rows k) (n / rows k) ≡ column k (m % rows k) (m / rows k))
      same = origin_inj (n % rows k) _ (m % rows k) _ (cell_row n) (cell_row m) (taken_lt n l) (taken_lt m o) e

      same_col : n / rows k ≡ m / rows k
      same_col =
          sym (column_back k (n % rows k) (n / rows k))
          ∙ ap₂ (λ (i j : ℕ). column k i j) same.0 same.1
          ∙ column_back k (m % rows k) (m / rows k)

  module _ (h : k ≤ 5114) where
    -- each address below K stands in L exactly once
    pub exactly_once : (a : ℕ) → a < k → count a (addresses k) ≡ 1
    unfolding addresses
    exactly_once a l =
        let f = fits k h in
        once (address k) (cells k) address_lt address_inj (inside k) a (omega arith) (lt-ltb a k l)

    -- L has K entries
    pub as_many : length (addresses k) ≡ k
    unfolding addresses
    as_many = kept (address k) (cells k) address_lt address_inj k (fits k h)

    -- L and M undo each other below K
    pub each_once : Perm k (turbo_l k) (turbo_m k)
    unfolding turbo_l turbo_m addresses
    each_once = kept_perm (address k) (cells k) address_lt address_inj k (fits k h)

    -- the laws of the family
    pub turbo_lawful : Lawful k (turbo_rule k)
    unfolding turbo_l addresses
    turbo_lawful = record {
      perm = each_once;
      list = sym (run_get_or (addresses k) 0) ∙ ap (run (λ i. get_or (addresses k) i 0) 0) as_many;
      small = omega (arith, cells_le k);
    }
