-- `gateway_form::limits::bytes_below`.
use Rattle.gateway_form.specs.Limits.{Below}
use Rattle.gateway_form.proofs.limits.bytes_below.Given as goal

abbrev pub invariant-loop-i : goal.invariant-loop-i
invariant-loop-i l = Below l.bytes l.limits l.ok l.i
