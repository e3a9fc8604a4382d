-- `gateway::form`.
use Rattle.laws.specs.Members.{fails, passes}
use mathlib.Core.Bool.{not}
use mathlib.Core.Path.{ap}
use Rattle.gateway.proofs.form.Goals as goal

pub returns-then-not-well_formed : goal.returns-then-not-well_formed
returns-then-not-well_formed c = rw (fails c.well_formed-2.ensures (ap not c.if-not-well_formed.true))

pub returns : goal.returns
returns c = rw (passes c.well_formed-2.ensures (ap not c.if-not-well_formed.false))
