-- What the walk hands to its parts, and what its answer says.
use Prim.Native.Nat.{ℕ, ◌+◌, ◌-◌, ◌/◌, ◌%◌, ◌≤◌, ◌<◌}
use mathlib.Core.Bool.{Bool, true, false, cond}
use mathlib.Core.List.{List, ◌++◌}
use Rattle.std.specs.Prelude.{Ok}
use mathlib.Core.Path.{◌≡◌, refl, ap, ap₂, sym, ◌∙◌, subst}
use native.Mathlib.Nat.{div-le_of_le-mul, mod-lt, div-add-mod'}
use native.Mathlib.Omega.{arith}
use lib.Dec.{eqb}
use lib.ListN.{get_or, length, take, drop}
use lib.Seq.{take_at}
use Rattle.laws.specs.Walk.{Leaf, went, walk_slice, LeafOf}
use Rattle.laws.specs.Leaves.{leaf_went, from_first}
use Rattle.wcdma_shape.specs.declared.Shape.{Shape}
use Rattle.wcdma_shape.specs.Rectangle.{Size, rows, prime, cols, cells}
use Rattle.wcdma_shape.specs.Powers.{power, root}
use Rattle.wcdma_shape.specs.Shape.{rows_pos, cols_high, prime_small}
use Rattle.wcdma_shape.specs.Roots.{Root, prime_root}
use Rattle.wcdma_shape.specs.Halves.{second_half}
use Rattle.wcdma_powers.specs.Post.{short_by}
use Rattle.wcdma.specs.Turbo.{addresses, turbo_rule}
use Rattle.wcdma.proofs.Law.{as_many}
use Rattle.wcdma.proofs.Walks.{walk_whole}
use Rattle.wcdma.specs.Laid.{Rows, Exponents, plain_rule}
use Rattle.wcdma_cells.specs.Post.{FillIn, WentOf}
use Rattle.wcdma_full.specs.Exchange.{exchange_in, alike}
use Rattle.wcdma_walk.specs.Post.{ByIn}

pub short_le : (c p x : ℕ) → x ≡ short_by c p → x ≤ 1
short_le c p x e = rw e (go (eqb c (p - 1)))
  where
    go : (b : Bool) → cond b 1 0 ≤ 1
    go true = omega arith
    go false = omega arith

-- what p and v of a shape are to each other
pub shape_root : (k : ℕ) {p v : ℕ} → p ≡ prime k → v ≡ root (prime k) → Root p v
shape_root k e f = rw (e, f) (prime_root k)

pub power_second : (k x : ℕ) {p v : ℕ} → p ≡ prime k → v ≡ root (prime k) → power p v (x + (p - 1) / 2) ≡ p - power p v x
power_second k x e f = rw (e, f) (second_half k x)

module _ {z : Shape} {cell : ℕ} (b : ByIn z cell) where
  pub rows_some : 0 < z.r
  rows_some = omega (arith, rows_pos z.k, b.shape.rows_is)

  pub column_small : cell / z.r ≤ 300
  unfolding cells
  column_small =
      let s = b.shape in
      let h : cell / rows z.k ≤ cols z.k = div-le_of_le-mul (rows z.k) {m = cell} {n = cols z.k} b.within in
      rw s.rows_is (omega (arith, cols_high z.k, prime_small z.k))

  pub fill_in : (s base fall e : List ℕ) (less : ℕ) → less ≡ short_by z.c z.p
      → ((x : ℕ) → x < z.p - 1 → get_or s x 0 ≡ power z.p z.v x - less)
      → Rows z.k base fall × Exponents z.k (cell % z.r) (cell / z.r) e
      → FillIn z cell (cell % z.r) (cell / z.r) s base fall e
  fill_in s base fall e less el g w =
      let h = b.shape in
      record {
        shape = h;
        tables = record { powers = λ x l. g x (omega (arith, h.prime_is)) ∙ rw (el, h.root_is, h.prime_is, h.cols_is); rows_are = w.0 };
        within = b.within;
        place = rw h.rows_is (sym (div-add-mod' cell (rows z.k)));
        row = rw h.rows_is (mod-lt cell (rows_pos z.k));
        exponents = w.1;
      }

-- the slice is filled, and then the exchange is made
pub exchange_went : (k cell : ℕ) (old : List ℕ) {filled new : List ℕ} {r : Leaf} → cell ≤ cells k → WentOf k (plain_rule k) cell old filled r
    → new ≡ exchange_in k cell filled → WentOf k (turbo_rule k) cell old new r
exchange_went k cell old h w e =
    let a = alike k cell h old in
    record { answer = w.answer ∙ ap Ok (ap₂ went a.written a.passed); slice = e ∙ ap (exchange_in k cell) w.slice ∙ a.slice }

-- the answer of a walk that went
pub went_says : (k cell : ℕ) (old : List ℕ) {y : ℕ} {new : List ℕ} {r : Leaf} → y ≡ k → cell ≤ cells k → WentOf y (turbo_rule y) cell old new r
    → LeafOf k (turbo_rule k) cell old new r
went_says k cell old {y} {new} {r} e h w =
    let z : WentOf k (turbo_rule k) cell old new r = rw e at w in
    subst (λ (x : Leaf). LeafOf k (turbo_rule k) cell old new x) (sym z.answer) (leaf_went h refl refl z.slice)

-- the front of a table that a walk from cell 0 filled is the list
pub table_front : (k : ℕ) → Size k → (old : List ℕ) {table : List ℕ} {leaf : Leaf} → LeafOf k (turbo_rule k) 0 old table leaf → k ≤ length old
    → take k table ≡ addresses k
unfolding walk_slice
table_front k size old w h =
    ap (take k) (from_first w ∙ ap (λ (l : List ℕ). l ++ drop (length l) old) (walk_whole k size (length old) h))
    ∙ take_at (addresses k) (drop (length (addresses k)) old) k (as_many k size.high)
