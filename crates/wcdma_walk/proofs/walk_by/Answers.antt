-- `walk_by` finds the numbers q, sets up, fills and exchanges.
use mathlib.Core.Path.{refl}
use native.Mathlib.Omega.{arith}
use Rattle.wcdma_shape.specs.Halves.{prime_odd}
use Rattle.wcdma_shape.specs.Shape.{prime_big, prime_small}
use Rattle.wcdma_walk.proofs.Setup.{column_small, exchange_went, fill_in, power_second, rows_some, shape_root, short_le}
use Rattle.wcdma_walk.proofs.walk_by.Goals as goal

pub short_by-less-requires : goal.short_by-less-requires
short_by-less-requires c = omega (arith, prime_big c.args.shape.k, c.requires.shape.prime_is)

pub overflow_cast-p : goal.overflow_cast-p
overflow_cast-p c = omega (arith, prime_small c.args.shape.k, c.requires.shape.prime_is)

pub powers-requires : goal.powers-requires
powers-requires c =
    let a = c.args.shape in
    let h = c.requires.shape in
    record {
      small = omega (arith, prime_small a.k, h.prime_is);
      root = shape_root a.k h.prime_is h.root_is;
      odd = omega (arith, prime_odd a.k, h.prime_is);
      second = λ x. power_second a.k x h.prime_is h.root_is;
      least = short_le a.c a.p _ c.short_by-less.ensures;
      long = refl;
    }

pub nonzero_rem-row : goal.nonzero_rem-row
nonzero_rem-row c = rows_some c.requires

pub nonzero_div-column : goal.nonzero_div-column
nonzero_div-column c = rows_some c.requires

pub overflow_cast-column : goal.overflow_cast-column
overflow_cast-column c = omega (arith, column_small c.requires)

pub lay_out-requires : goal.lay_out-requires
lay_out-requires c =
    let b = c.requires in
    record { shape = b.shape; numbers = c.find_numbers.ensures; column = column_small b; base_long = refl; fall_long = refl; at_long = refl }

pub fill-went-requires : goal.fill-went-requires
fill-went-requires c =
    let b = c.short_by-less in
    fill_in c.requires _ _ _ _ b.result b.ensures c.powers.ensures c.lay_out.ensures

pub returns : goal.returns
returns c =
    exchange_went c.args.shape.k c.args.cell _ c.requires.within c.fill-went.ensures c.exchange.ensures
