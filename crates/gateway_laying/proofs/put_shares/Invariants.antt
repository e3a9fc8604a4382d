-- `gateway_laying::put_shares`.
use Rattle.gateway_laying.specs.Laying.{Sharing}
use Rattle.gateway_laying.proofs.put_shares.Given as goal

abbrev pub invariant-loop-i : goal.invariant-loop-i
invariant-loop-i l = Sharing l.kinds l.fills l.initial.store l.store l.at l.i
