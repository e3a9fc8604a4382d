-- `carrier_rows::lift_up` is the lift of the next turn.
use mathlib.Core.Path.{◌∙◌, sym}
use Rattle.carrier_rows.specs.Row.{lift_over, lift_more}
use Rattle.carrier_rows.proofs.lift_up.Goals as goal

pub returns-then-lift-top : goal.returns-then-lift-top
returns-then-lift-top c = λ s turn hd inside e top. lift_over hd inside e (c.if-lift-top.true ∙ top)

pub returns-else-lift-top : goal.returns-else-lift-top
returns-else-lift-top c = λ s turn hd inside e top. lift_more hd inside e (λ q. c.if-lift-top.false (q ∙ sym top))
