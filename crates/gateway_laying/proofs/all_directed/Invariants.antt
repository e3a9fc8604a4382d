-- `gateway_laying::all_directed`.
use Rattle.gateway_form.specs.Form.{directed}
use Rattle.gateway_laying.specs.Laying.{Passing}
use Rattle.gateway_laying.proofs.all_directed.Given as goal

abbrev pub invariant-loop-direction : goal.invariant-loop-direction
invariant-loop-direction l = Passing directed l.directions l.direction-index
