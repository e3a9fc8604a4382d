-- `carrier_turned::one_l` is L at a position: L of the two steps, the turn ahead or as far behind the seam.
use mathlib.Core.Path.{◌∙◌}
use native.Mathlib.Omega.{arith}
use Rattle.carrier_turned.specs.Turned.{spatial, turn_lt, l_by, ahead, behind}
use Rattle.carrier_turned.proofs.one_l.Goals as goal

pub overflow_sub-seam : goal.overflow_sub-seam
overflow_sub-seam c = omega (arith, turn_lt (spatial c.args.b) c.turn_of-v.ensures)

pub returns-then-t-seam : goal.returns-then-t-seam
returns-then-t-seam c =
    let p = c.requires in
    c.address.ensures ∙ ahead _ _ _ _ _ (turn_lt (spatial c.args.b) c.turn_of-v.ensures) p c.if-t-seam.true ∙ l_by c.args.b c.turn_of-v.ensures _

pub returns : goal.returns
returns c =
    let p = c.requires in
    c.address-2.ensures ∙ behind _ _ _ _ _ (turn_lt (spatial c.args.b) c.turn_of-v.ensures) p c.if-t-seam.false ∙ l_by c.args.b c.turn_of-v.ensures _
