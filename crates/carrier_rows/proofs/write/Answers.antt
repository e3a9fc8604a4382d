-- `carrier_rows::write` writes L from any cell on, row by row. The loop's invariant is the law of lanes, and where the row or the room ends; the
-- measure is what is left to write.
use Prim.Native.Nat.{min}
use mathlib.Core.Path.{refl, sym, ap, ◌∙◌}
use native.Mathlib.Nat.{mod-lt, zero-add}
use native.Mathlib.Omega.{arith}
use Rattle.laws.specs.Sized.{row_pos, d_le, group_le}
use Rattle.laws.specs.Lanes.{part, lanes_first, lanes_next}
use Rattle.carrier.specs.Block.{block}
use Rattle.carrier_rows.specs.Along.{cell_is, set_up, rows_whole, lift_small}
use Rattle.carrier_rows.proofs.write.Goals as goal

pub overflow_mul-group : goal.overflow_mul-group
overflow_mul-group c = let b = c.args.b.whole in omega (arith, group_le b.size, b.small)

pub new-at-requires : goal.new-at-requires
new-at-requires c = set_up (block c.args.b.whole c.requires)

pub loop-i-init : goal.loop-i-init
loop-i-init c =
    let b = c.args.b.whole in
    (lanes_first (cell_is (block b c.requires)) (mod-lt _ (row_pos b.size)) c.new-at.ensures, c.least-stop.ensures ∙ ap (min _) (sym (zero-add _)))

pub along-end-requires : goal.along-end-requires
along-end-requires c =
    let b = c.args.b.whole in
    record {
      size = b.size;
      small = b.small;
      top_is = refl;
      group_is = refl;
      spot = c.loop-i.invariant.0.state c.loop-i-test.true;
      part = part c.loop-i.invariant.0 c.loop-i-test.true c.loop-i.invariant.1 (rows_whole b.size) c.least-count.ensures;
    }

pub next_row-at-requires : goal.next_row-at-requires
next_row-at-requires c =
    let b = c.args.b.whole in
    let p = part c.loop-i.invariant.0 c.loop-i-test.true c.loop-i.invariant.1 (rows_whole b.size) c.least-count.ensures in
    let e = lift_small b.size c.along-end.ensures.place in
    (omega (arith, b.small), omega (arith, p.lane_in, d_le b.size, b.small))

pub overflow_add-row : goal.overflow_add-row
overflow_add-row c =
    let b = c.args.b.whole in
    let p = part c.loop-i.invariant.0 c.loop-i-test.true c.loop-i.invariant.1 (rows_whole b.size) c.least-count.ensures in
    omega (arith, p.lane_in, d_le b.size, b.small)

pub loop-i-preserved : goal.loop-i-preserved
loop-i-preserved c =
    let b = c.args.b.whole in (
      lanes_next c.loop-i.invariant.0 c.loop-i-test.true c.loop-i.invariant.1 c.along-end.ensures (c.next_row-at.ensures b.size refl),
      omega (arith, c.least-stop-in-loop-i.ensures),
    )
