-- `gateway_form::entries_fit`.
use Rattle.gateway_form.specs.Testing.{Testing}
use Rattle.gateway_form.proofs.entries_fit.Given as goal

abbrev pub invariant-loop : goal.invariant-loop
invariant-loop l = Testing l.store l.machines l.share l.at l.counter
