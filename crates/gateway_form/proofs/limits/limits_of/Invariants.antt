-- `gateway_form::limits::limits_of`.
use Rattle.gateway_form.specs.Limits.{Limiting}
use Rattle.kinds.specs.Kinds.{sizes_of}
use Rattle.gateway_form.proofs.limits.limits_of.Given as goal

abbrev pub invariant-loop : goal.invariant-loop
invariant-loop l = Limiting (sizes_of l.kind) l.limits l.limit l.at l.counter
