-- `carrier_rows::RowSpot::next_row` goes from a row's end to the beginning of the next.
use native.Mathlib.Nat.{mod-lt}
use native.Mathlib.Omega.{arith}
use Rattle.laws.specs.Sized.{d_le}
use Rattle.carrier_rows.specs.Row.{row_turned}
use Rattle.carrier_rows.proofs.RowSpot.next_row.Goals as goal

pub lift_up-lift-requires : goal.lift_up-lift-requires
lift_up-lift-requires c = let b = c.args.b.whole in (c.requires.0, omega (arith, d_le b.size, b.small))

pub returns : goal.returns
returns c = λ z top p. row_turned z p c.lift_up-lift.result (c.lift_up-lift.ensures _ _ z.d_pos (mod-lt _ z.s_pos) p.lift_is top)
