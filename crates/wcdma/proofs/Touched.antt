-- What the exchange touches: in the row with T(i) = R - 1 of a full rectangle, U of columns 0 and p; so two cells of each of 59 sizes, cell 0 and the
-- first cell of column p. `plain` is a cell's address without it. Rests on Full and Law; one computed test over the sizes.
use Rattle.std.specs.Prelude.{ℕ, ◌+◌, ◌*◌, ◌-◌, ◌/◌, ◌%◌, ◌<◌, Bool, List, ◌≡◌, refl, length}
use Rattle.std.proofs.Math.Bool.{true, false}
use Rattle.std.proofs.Math.Path.{ap, ap₂}
use Rattle.std.proofs.Common.{sym, ◌∙◌, subst, add-zero, zero-mul, arith}
use Rattle.std.proofs.Math.Decide.{ℕ_discrete}
use Rattle.std.proofs.Math.Nat.{div-add-mod'}
use Rattle.std.proofs.Math.Arith.{digits_div, digits_mod}
use borrow.Author.Tests.{eq-eqb, ne_eqb}
use Rattle.laws.specs.Keep.{keep}
use Rattle.wcdma_shape.specs.Rectangle.{rows, primes, first_prime, prime, cols_of, cols, cells}
use Rattle.wcdma_shape.specs.Orders.{row_at}
use Rattle.wcdma_shape.specs.Shape.{rows_pos, prime_big}
use Rattle.wcdma.specs.Turbo.{full, exchanged, column, origin, address}
use Rattle.wcdma.specs.Laid.{plain}
use Rattle.wcdma.specs.Full.{first_row, row_takes, row_keeps, all_keep, full_cols, full_cells, origin_first, origin_last}
use Rattle.wcdma.proofs.Law.{first_alone}

-- the sizes of full rectangles
unfoldable pub full_sizes : List ℕ
full_sizes = keep (λ k. k) full 40 5075

pub sizes_touched : length full_sizes ≡ 59
unfolding full_sizes keep full rows primes first_prime prime cols_of cols cells
sizes_touched = refl

module _ (k : ℕ) where
  full_is : cols k ≡ prime k + 1 → k ≡ rows k * cols k → full k ≡ true
  unfolding full cells
  full_is c t = rw (eq-eqb (cols k) (prime k + 1) c, eq-eqb k (rows k * cols k) t)

  -- p changes places with 0
  exchanged_p : exchanged 0 (prime k) (prime k) ≡ 0
  exchanged_p = rw (ne_eqb (prime k) 0 (λ e. omega (arith, prime_big k)), eq-eqb (prime k) (prime k) refl)

  -- the address of row i of column j
  address_at : (i j : ℕ) → i < rows k → address k (j * rows k + i) ≡ origin k i (column k i j)
  unfolding address
  address_at i j h = ap₂ (λ (x y : ℕ). origin k x (column k x y)) (digits_mod j h) (digits_div j h)

  module _ (i : ℕ) (row : i < rows k) where
    -- where C = p + 1 and K = R-as-C, columns 0 and p change places in the row with T(i) = R - 1
    pub exchange_made : cols k ≡ prime k + 1 → k ≡ rows k * cols k → row_at k i ≡ rows k - 1
        → (address k (0 * rows k + i) ≡ origin k i (prime k))
        × (address k (prime k * rows k + i) ≡ origin k i 0)
        × ((j : ℕ) → (j ≡ 0 → ⊥) → (j ≡ prime k → ⊥) → address k (j * rows k + i) ≡ origin k i j)
    exchange_made c t r = (at 0 refl, at (prime k) exchanged_p, λ j a b. at j (rw (ne_eqb j 0 a, ne_eqb j (prime k) b)))
      where
        at : (j : ℕ) {x : ℕ} → exchanged 0 (prime k) j ≡ x → address k (j * rows k + i) ≡ origin k i x
        at j {x} e =
            address_at i j row
            ∙ ap (origin k i) (subst (λ (y : ℕ). column k y j ≡ x) (sym (first_alone k i row r)) (row_takes k (full_is c t) j ∙ e))

    -- and nowhere else
    pub exchange_left : (cols k ≡ prime k + 1 → k ≡ rows k * cols k → row_at k i ≡ rows k - 1 → ⊥)
        → (j : ℕ) → address k (j * rows k + i) ≡ origin k i j
    unfolding cells
    exchange_left h j = address_at i j row ∙ ap (origin k i) (go (full k) refl)
      where
        go : (b : Bool) → full k ≡ b → column k i j ≡ j
        go true f = row_keeps k f i j (λ e. h (full_cols k f) (full_cells k f) (ap (row_at k) e ∙ first_row k))
        go false f = all_keep k f i j

  -- where the column that a cell takes is its own
  own_column : (n : ℕ) → column k (n % rows k) (n / rows k) ≡ n / rows k → address k n ≡ plain k n
  unfolding address plain
  own_column n e = ap (origin k (n % rows k)) e

  -- no cell of a rectangle that is not full
  pub untouched : full k ≡ false → (n : ℕ) → address k n ≡ plain k n
  untouched f n = own_column n (all_keep k f (n % rows k) (n / rows k))

  module _ (f : full k ≡ true) where
    -- the first cell has U(p), and so K - 1
    pub at_first : address k 0 ≡ k - 1
    at_first =
        ap (address k) (sym (add-zero _ ∙ zero-mul (rows k))) ∙ address_at 0 0 (rows_pos k) ∙ ap (origin k 0) (row_takes k f 0) ∙ origin_last k f

    -- the first cell of the last column has U(0), and so K - p
    pub at_last : address k (prime k * rows k) ≡ k - prime k
    at_last =
        ap (address k) (sym (add-zero _)) ∙ address_at 0 (prime k) (rows_pos k)
        ∙ ap (origin k 0) (row_takes k f (prime k) ∙ exchanged_p) ∙ origin_first k f

    -- no other cell
    pub elsewhere : (n : ℕ) → (n ≡ 0 → ⊥) → (n ≡ prime k * rows k → ⊥) → address k n ≡ plain k n
    unfolding column
    elsewhere n a b = own_column n (go (ℕ_discrete (n % rows k) 0))
      where
        here : n % rows k ≡ 0 → n ≡ n / rows k * rows k
        here e = omega (arith, div-add-mod' n (rows k))

        go : Dec (n % rows k ≡ 0) → column k (n % rows k) (n / rows k) ≡ n / rows k
        go (yes e) =
            rw (
              f,
              eq-eqb (n % rows k) 0 e,
              ne_eqb (n / rows k) 0 (λ z. a (here e ∙ ap (λ (j : ℕ). j * rows k) z ∙ zero-mul (rows k))),
              ne_eqb (n / rows k) (prime k) (λ z. b (here e ∙ ap (λ (j : ℕ). j * rows k) z)),
            )
        go (no m) = row_keeps k f (n % rows k) (n / rows k) m
