-- `carrier_rows::RowSpot::next` is one column on, whatever the row and the column.
use native.Mathlib.Nat.{mod-lt}
use native.Mathlib.Omega.{arith}
use Rattle.carrier_rows.specs.Row.{row_over, row_on}
use Rattle.carrier_rows.proofs.RowSpot.next.Goals as goal

pub returns-then-low-b : goal.returns-then-low-b
returns-then-low-b c = λ row col p.
    let z = c.requires in
    rw z.group_is (row_over p c.lift_up-lift.result (c.lift_up-lift.ensures _ _ z.d_pos (mod-lt _ z.s_pos) p.lift_is z.top_is) (omega (arith, z.s_pos, c.if-low-b.true)))

pub returns : goal.returns
returns c = λ row col p.
    let z = c.requires in
    row_on p c.lift_up-lift.result (c.lift_up-lift.ensures _ _ z.d_pos (mod-lt _ z.s_pos) p.lift_is z.top_is) z.s_pos (λ e. c.if-low-b.false (omega (arith, e)))
