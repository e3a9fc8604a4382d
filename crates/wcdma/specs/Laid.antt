-- The rows as they are laid out for a walk: where each begins, by how much its exponent falls, and the exponents where the walk
-- stands; and the addresses that the walk makes of them. Rests on Turbo, the shape and the set-up. These are definitions.
use Rattle.std.specs.Prelude.{ℕ, ◌+◌, ◌*◌, ◌-◌, ◌/◌, ◌%◌, ◌<◌, cond, List, ◌≡◌, ltb, get_or, length}
use Rattle.laws.specs.Walk.{Rule}
use Rattle.wcdma_shape.specs.Rectangle.{rows, prime, cols}
use Rattle.wcdma_shape.specs.Orders.{row_at}
use Rattle.wcdma_setup.specs.Numbers.{q_of}
use Rattle.wcdma.specs.Turbo.{origin, turbo_rule}

-- the column that comes next in row x, where the walk stands at row i of column j
abbrev pub next_col : ℕ → ℕ → ℕ → ℕ
next_col i j x = cond (ltb x i) (j + 1) j

-- the exponents of the rows there
pub record Exponents (k i j : ℕ) (at : List ℕ) : Type 0 where
  pub long : length at ≡ 20
  pub each : (x : ℕ) → x < rows k → get_or at x 0 ≡ next_col i j x * q_of (prime k - 1) x % (prime k - 1)

-- where each row begins, and by how much its exponent falls from column to column: p - 1 less q mod (p - 1)
pub record Rows (k : ℕ) (base fall : List ℕ) : Type 0 where
  pub bases : (x : ℕ) → x < rows k → get_or base x 0 ≡ row_at k x * cols k
  pub falls : (x : ℕ) → x < rows k → get_or fall x 0 ≡ prime k - 1 - q_of (prime k - 1) x % (prime k - 1)

-- what the walk makes of a cell, row i of column j: T(i)·C + U(j), by U of its own column
unfoldable pub plain : ℕ → ℕ → ℕ
plain k cell = origin k (cell % rows k) (cell / rows k)

-- the rule of a block with other addresses. (A walk reads a rule's total and addresses, and nothing else of it.)
abbrev pub rule_by : ℕ → (ℕ → ℕ) → Rule
rule_by k a = let r = turbo_rule k in record { total = r.total; address = a; l = r.l; m = r.m }

-- with those that the walk makes, the exchange of a full rectangle left out
abbrev pub plain_rule : ℕ → Rule
plain_rule k = rule_by k (plain k)
