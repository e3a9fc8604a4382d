-- `gateway_laying::measure`.
use mathlib.Core.Path.{◌≡◌}
use Rattle.kinds.specs.Kinds.{known}
use Rattle.gateway_laying.specs.Laid.{start_of}
use Rattle.gateway_laying.specs.Laying.{Passing}
use Rattle.gateway_laying.proofs.measure.Given as goal

abbrev pub invariant-loop-kind : goal.invariant-loop-kind
invariant-loop-kind l = Passing known l.kinds l.kind-index × (l.bytes ≡ start_of l.kinds l.kind-index)
