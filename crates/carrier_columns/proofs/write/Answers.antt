-- `carrier_columns::write` writes M from any cell on, column by column. The loop's invariant is the law of lanes; the measure is what is left.
use mathlib.Core.Path.{refl, sym}
use native.Mathlib.Nat.{div-le_self}
use native.Mathlib.Omega.{arith}
use Rattle.laws.specs.Sized.{row_whole}
use Rattle.laws.specs.Lanes.{part, lanes_next}
use Rattle.carrier_columns.proofs.write.Goals as goal

pub down-end-requires : goal.down-end-requires
down-end-requires c =
    let b = c.args.b.whole in
    record {
      size = b.size;
      small = b.small;
      c_is = refl;
      spot = c.loop-i.invariant.state c.loop-i-test.true;
      part = part c.loop-i.invariant c.loop-i-test.true c.least-stop.ensures (sym (row_whole b.size)) c.least-count.ensures;
    }

pub overflow_add-col : goal.overflow_add-col
overflow_add-col c =
    let p = part c.loop-i.invariant c.loop-i-test.true c.least-stop.ensures (sym (row_whole c.args.b.whole.size)) c.least-count.ensures in
    omega (arith, p.lane_in, div-le_self c.args.b.n c.args.b.d, c.args.b.whole.small)

pub loop-i-preserved : goal.loop-i-preserved
loop-i-preserved c =
    let b = c.args.b.whole in
    lanes_next c.loop-i.invariant c.loop-i-test.true c.least-stop.ensures c.down-end.ensures
    (λ p. c.next_column-at.ensures _ _ b.size)
