-- `gateway_laying::put_entries`.
use Rattle.gateway_laying.specs.Laying.{Entering}
use Rattle.gateway_laying.proofs.put_entries.Given as goal

abbrev pub invariant-loop-i : goal.invariant-loop-i
invariant-loop-i l = Entering l.kinds l.directions l.initial.store l.store l.share l.at l.i
