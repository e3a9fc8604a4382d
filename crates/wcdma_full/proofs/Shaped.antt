-- What the numbers of a shape say of its rectangle.
use Prim.Native.Nat.{ℕ, ◌+◌, ◌*◌, ◌-◌, ◌≤◌}
use mathlib.Core.Bool.{true, ◌&&◌}
use mathlib.Core.List.{List}
use mathlib.Core.Path.{◌≡◌, refl, ap, ◌∙◌}
use native.Mathlib.Omega.{arith}
use lib.Dec.{eqb}
use Rattle.laws.specs.Put.{put_at}
use Rattle.wcdma_shape.specs.declared.Shape.{Shape}
use Rattle.wcdma_shape.specs.Post.{ShapeOf}
use Rattle.wcdma_shape.specs.Rectangle.{rows, prime}
use Rattle.wcdma_shape.specs.Shape.{shape_total}
use Rattle.wcdma.specs.Turbo.{full}
use Rattle.wcdma.specs.Full.{full_cols, last_column, last_row}
use Rattle.wcdma_full.specs.Exchange.{exchange_in}

module _ (z : Shape) (s : ShapeOf z) where
  pub shape_full : (eqb z.c (z.p + 1) && eqb z.k (z.r * z.c)) ≡ full z.k
  unfolding full
  shape_full = rw (shape_total z s refl, s.cols_is, s.prime_is)

  module _ (f : full z.k ≡ true) where
    -- where the last column begins, and what stands there
    pub last_is : (z.r ≤ z.k) × (z.k - z.r ≡ prime z.k * rows z.k)
    last_is =
        let e = last_column z.k f in
        let r = s.rows_is in (omega arith, omega arith)

    pub low_is : (z.c ≤ z.k + 1) × (z.k + 1 - z.c ≡ z.k - prime z.k)
    low_is =
        let e = last_row z.k f in
        let c : z.c ≡ prime z.k + 1 = s.cols_is ∙ full_cols z.k f in (omega arith, omega arith)

    -- the two addresses in their places
    pub exchange_is : (first : ℕ) (out : List ℕ) {one two : List ℕ} → one ≡ put_at first 0 (z.k - 1) out
        → two ≡ put_at first (z.k - z.r) (z.k + 1 - z.c) one → two ≡ exchange_in z.k first out
    unfolding exchange_in
    exchange_is first out a b = b ∙ ap (put_at first (z.k - z.r) (z.k + 1 - z.c)) a ∙ rw (f, last_is.1, low_is.1)
