-- `lay_out` lays out the rows. The invariant: the rows below x are laid out.
use Prim.Native.Nat.{◌%◌, ◌*◌, ◌-◌, ◌<◌}
use lib.ListN.{length-set}
use mathlib.Core.Path.{refl}
use native.Mathlib.Nat.{le_of_lt, mod-lt}
use native.Mathlib.Omega.{arith}
use Rattle.laws.specs.Entries.{fill_more}
use Rattle.wcdma_setup.specs.Numbers.{q_of}
use Rattle.wcdma_shape.specs.Orders.{row_at}
use Rattle.wcdma_shape.specs.Rectangle.{cols, prime, rows}
use Rattle.wcdma_shape.specs.Shape.{cols_high, prime_big, prime_small, product_small, rows_le}
use Rattle.wcdma_rows.proofs.Laid.{fall_is, start_is}
use Rattle.wcdma.proofs.Law.{row_lt}
use Rattle.wcdma.specs.Laid.{next_col}
use Rattle.wcdma_rows.proofs.lay_out.Goals as goal

pub overflow_sub-m : goal.overflow_sub-m
overflow_sub-m c = omega (arith, prime_big c.args.shape.k, c.requires.shape.prime_is)

pub overflow_cast-m : goal.overflow_cast-m
overflow_cast-m c = omega (arith, prime_small c.args.shape.k, c.requires.shape.prime_is)

pub offset_bounds-q-x : goal.offset_bounds-q-x
offset_bounds-q-x c = omega (arith, rows_le c.args.shape.k, c.requires.shape.rows_is)

pub bounds-q-x : goal.bounds-q-x
bounds-q-x c = omega (arith, rows_le c.args.shape.k, c.requires.shape.rows_is)

pub nonzero_rem-step : goal.nonzero_rem-step
nonzero_rem-step c = omega (arith, prime_big c.args.shape.k, c.requires.shape.prime_is)

pub overflow_mul-base : goal.overflow_mul-base
overflow_mul-base c =
    let k = c.args.shape.k in
    let z = c.requires in
    let l = row_lt k c.loop-x.x (omega (arith, c.loop-x-test.true, z.shape.rows_is)) in
    omega (
      arith,
      product_small {r = c.row_at-t.result} {x = c.args.shape.c}
          (let h = rows_le k in let e = c.row_at-t.ensures in omega arith)
          (let h = cols_high k in let p = prime_small k in let e = z.shape.cols_is in omega arith),
    )

pub offset_bounds-base-x : goal.offset_bounds-base-x
offset_bounds-base-x c = omega (arith, rows_le c.args.shape.k, c.requires.shape.rows_is)

pub bounds-base-x : goal.bounds-base-x
bounds-base-x c = omega (arith, rows_le c.args.shape.k, c.requires.shape.rows_is)

pub overflow_sub-fall : goal.overflow_sub-fall
overflow_sub-fall c = let o : 0 < c.args.shape.p - 1 = omega (arith, prime_big c.args.shape.k, c.requires.shape.prime_is) in le_of_lt (mod-lt _ (omega arith))

pub offset_bounds-fall-x : goal.offset_bounds-fall-x
offset_bounds-fall-x c = omega (arith, rows_le c.args.shape.k, c.requires.shape.rows_is)

pub bounds-fall-x : goal.bounds-fall-x
bounds-fall-x c = omega (arith, rows_le c.args.shape.k, c.requires.shape.rows_is)

pub first_exponent-requires : goal.first_exponent-requires
first_exponent-requires c = let o : 0 < c.args.shape.p - 1 = omega (arith, prime_big c.args.shape.k, c.requires.shape.prime_is) in (c.requires.column, mod-lt _ (omega arith), omega (arith, prime_small c.args.shape.k, c.requires.shape.prime_is))

pub offset_bounds-at-x : goal.offset_bounds-at-x
offset_bounds-at-x c = omega (arith, rows_le c.args.shape.k, c.requires.shape.rows_is)

pub bounds-at-x : goal.bounds-at-x
bounds-at-x c = omega (arith, rows_le c.args.shape.k, c.requires.shape.rows_is)

pub loop-x-preserved : goal.loop-x-preserved
loop-x-preserved c =
    let l = c.loop-x in
    let a = c.args in
    let g = c.requires in
    let h : l.x < rows a.shape.k = omega (arith, c.loop-x-test.true, g.shape.rows_is) in
    let o : l.x < 20 = omega (arith, rows_le c.args.shape.k, c.requires.shape.rows_is) in
    let ep = g.shape.prime_is in
    let ec = g.shape.cols_is in
    let eq = g.numbers l.x h in
    let k = a.shape.k in (
      simp length-set l.invariant.0,
      simp length-set l.invariant.1,
      simp length-set l.invariant.2,
      fill_more (λ y. row_at k y * cols k) l.base l.x _ (omega (arith, o, l.invariant.0)) (rw (c.row_at-t.ensures, ec)) l.invariant.3,
      fill_more (λ y. prime k - 1 - q_of (prime k - 1) y % (prime k - 1)) l.fall l.x _ (omega (arith, o, l.invariant.1))
          (fall_is refl eq ep) l.invariant.4,
      fill_more (λ y. next_col a.i a.j y * q_of (prime k - 1) y % (prime k - 1)) l.at l.x _ (omega (arith, o, l.invariant.2))
          (start_is (next_col a.i a.j l.x) c.first_exponent.ensures eq ep) l.invariant.5,
    )
