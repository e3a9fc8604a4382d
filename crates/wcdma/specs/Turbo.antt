-- The WCDMA turbo interleaver, 3GPP TS 25.212 4.2.3.2.3.2 (intra-row and inter-row permutations) and 4.2.3.2.3.3 (padding pruned): the address of
-- each cell of the rectangle, and the lists L and M of a block of K symbols. Rests on the shape and the set-up. These are definitions.
use Rattle.std.specs.Prelude.{ℕ, ◌+◌, ◌*◌, ◌-◌, ◌/◌, ◌%◌, Bool, cond, ◌&&◌, List, ltb, eqb, get_or}
use Rattle.laws.specs.Keep.{keep, padding}
use Rattle.laws.specs.Once.{inside}
use Rattle.laws.specs.Position.{position}
use Rattle.laws.specs.Walk.{Rule}
use Rattle.wcdma_shape.specs.Rectangle.{rows, prime, cols, cells}
use Rattle.wcdma_shape.specs.Powers.{power, root}
use Rattle.wcdma_setup.specs.Numbers.{q_of}
use Rattle.wcdma_shape.specs.Orders.{row_at}

-- U(j) where s is the power that belongs to column j: s - 1 if C = p - 1; else s for j < p - 1, 0 for j = p - 1, p for j = p
abbrev pub entry_with : ℕ → ℕ → ℕ → ℕ → ℕ
entry_with p c s j = cond (eqb c (p - 1)) (s - 1) (cond (ltb j (p - 1)) s (cond (eqb j (p - 1)) 0 p))

-- U(j) in a row with the number q: the power is S(j·q mod (p - 1))
unfoldable pub entry : ℕ → ℕ → ℕ → ℕ → ℕ → ℕ
entry p v c q j = entry_with p c (power p v (j * q % (p - 1))) j

-- C = p + 1 and K = R-as-C
unfoldable pub full : ℕ → Bool
full k = eqb (cols k) (prime k + 1) && eqb k (cells k)

-- a and b change places
abbrev pub exchanged : ℕ → ℕ → ℕ → ℕ
exchanged a b j = cond (eqb j a) b (cond (eqb j b) a j)

-- the column whose U a cell takes, row i of column j: j, but if C = p + 1 and K = R-as-C, columns 0 and p change places in row i = 0
unfoldable pub column : ℕ → ℕ → ℕ → ℕ
column k i j = cond (full k && eqb i 0) (exchanged 0 (prime k) j) j

-- T(i)·C + U(j)
unfoldable pub origin : ℕ → ℕ → ℕ → ℕ
origin k i j = row_at k i * cols k + entry (prime k) (root (prime k)) (cols k) (q_of (prime k - 1) i) j

-- the address of a cell, row i of column j: T(i)·C + U at the column that it takes. Cells are counted down the columns. (The standard permutes each
-- row by r and then the rows by T, with r(T(i)) = q(i): row i after the inter-row permutation is row T(i) before it, so the number of row i here is
-- q(i). It exchanges U(p) and U(0) in row R - 1 as it is before the inter-row permutation; T(0) = R - 1, and no other T(i) is: `first_row` in
-- Full, `first_alone` in Law.)
unfoldable pub address : ℕ → ℕ → ℕ
address k cell = origin k (cell % rows k) (column k (cell % rows k) (cell / rows k))

-- the addresses of all cells but the padding, in the order of the cells
unfoldable pub addresses : ℕ → List ℕ
addresses k = keep (address k) (inside k) 0 (cells k)

-- L: output t holds input L(t)
unfoldable pub turbo_l : ℕ → ℕ → ℕ
turbo_l k t = get_or (addresses k) t 0

-- M: input a goes to output M(a), its place in L
unfoldable pub turbo_m : ℕ → ℕ → ℕ
turbo_m k a = position a (addresses k)

-- the rule of a block of K: cells are those of the rectangle
abbrev pub turbo_rule : ℕ → Rule
turbo_rule k = record { total = cells k; address = address k; l = turbo_l k; m = turbo_m k }

-- how many of its cells are padding
unfoldable pub pad_cells : ℕ → ℕ
pad_cells k = padding (address k) (inside k) 0 (cells k)
