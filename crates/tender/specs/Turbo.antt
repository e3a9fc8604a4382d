-- Condition 2 for profile 5, the WCDMA turbo interleaver of 3GPP TS 25.212: for every size K from 40 to 5,114 each address from 0 to K - 1 stands in L
-- exactly once, and the padding is counted. Where C = p + 1 and K = R-as-C, the entries U of the row with T(i) = R - 1 change places at columns 0 and p.
-- The search for the rows' numbers q ends by 89.
use Rattle.std.specs.Prelude.{ℕ, suc, ◌+◌, ◌*◌, ◌-◌, ◌≤◌, ◌<◌, ◌↔◌, ◌≡◌, refl, length}
use mathlib.Core.List.{Memᴰ}
use Rattle.std.proofs.Common.{arith}
use Rattle.laws.specs.Perm.{Perm}
use Rattle.laws.specs.Once.{count}
use Rattle.wcdma_shape.specs.Rectangle.{rows, primes, first_prime, prime, cols, cells}
use Rattle.wcdma_shape.specs.Shape.{prime_listed}
use Rattle.wcdma_shape.specs.Orders.{row_at}
use Rattle.wcdma_setup.specs.Numbers.{q_of}
use Rattle.wcdma_setup.specs.Primes.{Prime, Next, primes_are}
use Rattle.wcdma_setup.proofs.Found as numbers
use Rattle.wcdma.specs.Turbo.{origin, address, addresses, turbo_l, turbo_m, pad_cells}
use Rattle.wcdma.specs.Full as exchange
use Rattle.wcdma.proofs.Law as law
use Rattle.wcdma.proofs.Touched.{full_sizes}
use Rattle.wcdma.proofs.Touched as touched
use Rattle.wcdma.proofs.Pads as pads

module _ (k : ℕ) (low : 40 ≤ k) (high : k ≤ 5114) where
  -- L and M undo each other below K
  pub each_once : Perm k (turbo_l k) (turbo_m k)
  each_once = law.each_once k high

  -- each address below K stands in L exactly once
  pub exactly_once : (a : ℕ) → a < k → count a (addresses k) ≡ 1
  exactly_once = law.exactly_once k high

  -- the cells are the K addresses and the padding, of which there are never more than 239
  pub padding_counted : (cells k ≡ k + pad_cells k) × (pad_cells k ≤ 239)
  padding_counted = (pads.cells_are k high, pads.padding_few k (record { low = low; high = high }))

-- and 239 is reached, at K = 2,281
pub padding_reached : pad_cells 2281 ≡ 239
padding_reached = pads.padding_most

-- the address of row i of column j; `origin k i x` is T(i)·C + U(x)
module _ (k i : ℕ) (row : i < rows k) where
  -- where C = p + 1 and K = R-as-C, the row with T(i) = R - 1 has U(p) at j = 0, U(0) at j = p, and U(j) at every other j
  pub exchange_made : cols k ≡ prime k + 1 → k ≡ rows k * cols k → row_at k i ≡ rows k - 1
      → (address k (0 * rows k + i) ≡ origin k i (prime k))
      × (address k (prime k * rows k + i) ≡ origin k i 0)
      × ((j : ℕ) → (j ≡ 0 → ⊥) → (j ≡ prime k → ⊥) → address k (j * rows k + i) ≡ origin k i j)
  exchange_made = touched.exchange_made k i row

  -- in any other row, and in any other rectangle, U(j) stands at j
  pub exchange_left : (cols k ≡ prime k + 1 → k ≡ rows k * cols k → row_at k i ≡ rows k - 1 → ⊥)
      → (j : ℕ) → address k (j * rows k + i) ≡ origin k i j
  exchange_left = touched.exchange_left k i row

-- that row is row 0, in every row order, and no other is
pub exchange_row : (k : ℕ) → (row_at k 0 ≡ rows k - 1) × ((i : ℕ) → i < rows k → row_at k i ≡ rows k - 1 → i ≡ 0)
exchange_row k = (exchange.first_row k, law.first_alone k)

-- 59 of the sizes have such a rectangle
pub exchange_sizes : length full_sizes ≡ 59
exchange_sizes = touched.sizes_touched

-- "For all 52 primes the search ends by 89": for each p of the table and each of the 19 rows behind row 0, q(i + 1) is at most 89, and it is the least
-- prime above 6 and above q(i) that has no common divisor with p - 1, of all there are (`Next`); and q(0) is 1
pub q_ends : (p : ℕ) → Memᴰ p primes
    → (q_of (p - 1) 0 ≡ 1) × ((i : ℕ) → i < 19 → Next (p - 1) (q_of (p - 1) i) (q_of (p - 1) (suc i)) × (q_of (p - 1) (suc i) ≤ 89))
unfolding q_of
q_ends p m = (refl, λ i l. numbers.q_ends m i (omega arith))

-- and 89 is reached: at K = 4,776, where p is 239, in the last of its 20 rows
pub q_reached : (prime 4776 ≡ 239) × (rows 4776 ≡ 20) × (q_of 238 19 ≡ 89)
unfolding rows prime first_prime primes
q_reached = (refl, refl, numbers.q_reached)

-- the table has 52 numbers, the primes from 7 to 257, and p of every K is one of them
pub q_primes : (length primes ≡ 52) × ((p : ℕ) → Memᴰ p primes ↔ (Prime p × (7 ≤ p) × (p ≤ 257))) × ((k : ℕ) → Memᴰ (prime k) primes)
unfolding primes
q_primes = (refl, primes_are, prime_listed)
