-- `carrier_turned::one_m` is M at a position: M of the two steps with the turn taken off.
use mathlib.Core.Path.{◌∙◌}
use native.Mathlib.Omega.{arith}
use Rattle.carrier_turned.specs.Turned.{spatial, turn_lt, m_lt, m_by, off_of, off_up, off_down}
use Rattle.carrier_turned.proofs.one_m.Goals as goal

pub overflow_sub-result : goal.overflow_sub-result
overflow_sub-result c = omega (arith, turn_lt (spatial c.args.b) c.turn_of-v.ensures)

pub returns-then-a-v : goal.returns-then-a-v
returns-then-a-v c =
    off_up _ _ _ (turn_lt (spatial c.args.b) c.turn_of-v.ensures) c.if-a-v.true ∙ off_of c.args.b _ _ c.address-a.ensures ∙ m_by c.args.b c.turn_of-v.ensures _

pub returns : goal.returns
returns c =
    let p = spatial c.args.b in
    off_down _ _ _ (turn_lt p c.turn_of-v.ensures) (m_lt p c.requires c.address-a.ensures) c.if-a-v.false ∙ off_of c.args.b _ _ c.address-a.ensures ∙ m_by c.args.b c.turn_of-v.ensures _
