-- What the functions of the walk over the cells are given and ensure, part by part. Rests on Laid of crate wcdma, Post of wcdma_powers and Written of laws. These are definitions.
use Rattle.std.specs.Prelude.{ℕ, ◌+◌, ◌*◌, ◌-◌, ◌<◌, ◌≤◌, cond, List, ◌≡◌, ltb, eqb, get_or, length, Ok}
use Rattle.laws.specs.Once.{inside}
use Rattle.laws.specs.Written.{Written}
use Rattle.laws.specs.Walk.{Rule, Leaf, walk_counts, walk_slice}
use Rattle.wcdma_shape.specs.declared.Shape.{Shape}
use Rattle.wcdma_shape.specs.Rectangle.{rows, prime, cols, cells}
use Rattle.wcdma_shape.specs.Powers.{power, root}
use Rattle.wcdma_shape.specs.Post.{ShapeOf}
use Rattle.wcdma_powers.specs.Post.{short_by}
use Rattle.wcdma.specs.Laid.{Exponents, Rows, plain}

-- S, each power less what a column's number is less, with the rows
pub record Tables (k : ℕ) (s base fall : List ℕ) : Type 0 where
  pub powers : (x : ℕ) → x < prime k - 1 → get_or s x 0 ≡ power (prime k) (root (prime k)) x - short_by (cols k) (prime k)
  pub rows_are : Rows k base fall

-- U(j) where s is what the table has for it
abbrev pub entry_at : ℕ → ℕ → ℕ → ℕ
entry_at p s j = cond (ltb j (p - 1)) s (cond (eqb j (p - 1)) 0 p)

-- a walk that stood at cell c, with n addresses in the slice, stands at another, whatever it began with
abbrev pub Goes : ℕ → ℕ → List ℕ → ℕ → ℕ → List ℕ → ℕ → Type 0
Goes k c out n c' out' n' =
    (c₀ : ℕ) (o : List ℕ) → Written (plain k) (inside k) (cells k) c₀ o c out n → Written (plain k) (inside k) (cells k) c₀ o c' out' n'

pub record CellIn (z : Shape) (i j n : ℕ) (s base fall e out : List ℕ) : Type 0 where
  pub shape : ShapeOf z
  pub tables : Tables z.k s base fall
  pub row : i < rows z.k
  pub column : j < cols z.k
  pub exponents : Exponents z.k i j e
  pub room : n < length out

pub record CellOf (k i j n : ℕ) (e out out' : List ℕ) (w : ℕ) : Type 0 where
  pub exponents : Exponents k (i + 1) j e
  pub goes : Goes k (j * rows k + i) out n (j * rows k + i + 1) out' w
  pub most : w ≤ n + 1
  pub same : length out' ≡ length out

pub record ColumnIn (z : Shape) (j n : ℕ) (s base fall e out : List ℕ) : Type 0 where
  pub shape : ShapeOf z
  pub tables : Tables z.k s base fall
  pub column : j < cols z.k
  pub exponents : Exponents z.k 0 j e
  pub room : n + z.r ≤ length out

pub record ColumnOf (k j n : ℕ) (e out out' : List ℕ) (w : ℕ) : Type 0 where
  pub exponents : Exponents k 0 (j + 1) e
  pub goes : Goes k (j * rows k) out n (j * rows k + rows k) out' w
  pub same : length out' ≡ length out

pub record FillIn (z : Shape) (cell i j : ℕ) (s base fall e : List ℕ) : Type 0 where
  pub shape : ShapeOf z
  pub tables : Tables z.k s base fall
  pub within : cell ≤ cells z.k
  pub place : cell ≡ j * rows z.k + i
  pub row : i < rows z.k
  pub exponents : Exponents z.k i j e

-- a walk along a rule is done: its answer and the slice
pub record WentOf (k : ℕ) (rule : Rule) (cell : ℕ) (old new : List ℕ) (r : Leaf) : Type 0 where
  pub answer : r ≡ Ok (walk_counts k rule cell (length old))
  pub slice : new ≡ walk_slice k rule cell old
