-- `one_cell` passes one cell: its address is written or passed over, and the exponent of its row is that of the next column.
use Prim.Native.Nat.{◌*◌, ◌+◌}
use lib.ListN.{get_or, length-set, set}
use mathlib.Core.Path.{◌≡◌, refl}
use native.Mathlib.Omega.{arith}
use Rattle.wcdma_shape.specs.Rectangle.{rows}
use Rattle.wcdma_shape.specs.Shape.{cells_le}
use Rattle.wcdma_cells.proofs.Cell.{address_is, exponent_in, cell_inside, exponent_small, goes_put, goes_skip, prime_pos, raised_is, row_small}
use Rattle.wcdma_cells.proofs.Place.{exponents_down}
use Rattle.wcdma.proofs.Law.{plain_lt}
use Rattle.wcdma.specs.Laid.{Exponents, plain}
use Rattle.wcdma_cells.proofs.one_cell.Goals as goal

pub offset_bounds-e-i : goal.offset_bounds-e-i
offset_bounds-e-i c = omega (arith, row_small c.requires)

pub bounds-e-i : goal.bounds-e-i
bounds-e-i c = row_small c.requires

pub offset_bounds-s-x : goal.offset_bounds-s-x
offset_bounds-s-x c = omega (arith, exponent_small c.requires)

pub bounds-s-x : goal.bounds-s-x
bounds-s-x c = exponent_small c.requires

pub entry_at-u-requires : goal.entry_at-u-requires
entry_at-u-requires c = prime_pos c.requires

pub offset_bounds-base-i : goal.offset_bounds-base-i
offset_bounds-base-i c = omega (arith, row_small c.requires)

pub bounds-base-i : goal.bounds-base-i
bounds-base-i c = row_small c.requires

pub overflow_add-a : goal.overflow_add-a
overflow_add-a c =
    let here_is : get_or c.args.base.now c.args.i 0 + c.entry_at-u.result ≡ plain c.args.shape.k (c.args.j * rows c.args.shape.k + c.args.i) = address_is c.requires _ c.entry_at-u.result refl c.entry_at-u.ensures in
    let z = c.requires in omega (arith, here_is, plain_lt c.args.shape.k (c.args.j * rows c.args.shape.k + c.args.i) (cell_inside z), cells_le c.args.shape.k)

pub offset_bounds-fall-i : goal.offset_bounds-fall-i
offset_bounds-fall-i c = omega (arith, row_small c.requires)

pub bounds-fall-i : goal.bounds-fall-i
bounds-fall-i c = row_small c.requires

pub overflow_sub-p : goal.overflow_sub-p
overflow_sub-p c = prime_pos c.requires

pub next_exponent-requires : goal.next_exponent-requires
next_exponent-requires c = exponent_in c.requires

pub offset_bounds-e-i-2 : goal.offset_bounds-e-i-2
offset_bounds-e-i-2 c = omega (arith, row_small c.requires)

pub bounds-e-i-2 : goal.bounds-e-i-2
bounds-e-i-2 c = row_small c.requires

pub returns-then-a-k : goal.returns-then-a-k
returns-then-a-k c =
    let next_exponents : Exponents c.args.shape.k (c.args.i + 1) c.args.j (set c.args.e.now c.args.i c.next_exponent.result) = let z = c.requires in exponents_down _ z.exponents z.row c.next_exponent.result (raised_is z c.next_exponent.result c.next_exponent.ensures) in
    let here_is : get_or c.args.base.now c.args.i 0 + c.entry_at-u.result ≡ plain c.args.shape.k (c.args.j * rows c.args.shape.k + c.args.i) = address_is c.requires _ c.entry_at-u.result refl c.entry_at-u.ensures in
    let z = c.requires in
    record {
      exponents = next_exponents;
      goes = goes_put z _ here_is c.if-a-k.true;
      most = omega arith;
      same = simp length-set;
    }

pub returns : goal.returns
returns c =
    let next_exponents : Exponents c.args.shape.k (c.args.i + 1) c.args.j (set c.args.e.now c.args.i c.next_exponent.result) = let z = c.requires in exponents_down _ z.exponents z.row c.next_exponent.result (raised_is z c.next_exponent.result c.next_exponent.ensures) in
    let here_is : get_or c.args.base.now c.args.i 0 + c.entry_at-u.result ≡ plain c.args.shape.k (c.args.j * rows c.args.shape.k + c.args.i) = address_is c.requires _ c.entry_at-u.result refl c.entry_at-u.ensures in
    let z = c.requires in
    record {
      exponents = next_exponents;
      goes = goes_skip z _ here_is c.if-a-k.false;
      most = omega arith;
      same = refl;
    }
