-- `gateway_laying::measure`.
use Prim.Native.Nat.{◌+◌}
use mathlib.Core.Path.{◌≡◌, sym, ap, ap₂, ◌∙◌}
use native.Mathlib.Omega.{arith}
use lib.ListN.{length, get_or}
use Rattle.laws.specs.Outcome.{done}
use Rattle.kinds.specs.Kinds.{sound}
use Rattle.gateway_laying.specs.Laid.{start_of}
use Rattle.gateway_laying.specs.Laying.{passing_first, passing_all, passing_more, passing_not, start_first, start_next, start_low}
use Rattle.gateway_laying.proofs.measure.Goals as goal

pub loop-kind-init : goal.loop-kind-init
loop-kind-init c = (passing_first _ _, sym (start_first _))

pub returns-then-not-known : goal.returns-then-not-known
returns-then-not-known c = rw (passing_not c.loop-kind.invariant.0 c.loop-kind-test.true (sym c.known.ensures ∙ c.if-not-known.true))

pub overflow_add-bytes-in-loop-kind : goal.overflow_add-bytes-in-loop-kind
overflow_add-bytes-in-loop-kind c = omega (arith, c.of-bytes.ensures.store, (sound (get_or c.args.kinds.now c.loop-kind.kind-index 0)).low, c.loop-kind.invariant.1, start_low c.args.kinds.now c.loop-kind.kind-index, c.loop-kind-test.true, c.requires)

pub loop-kind-preserved : goal.loop-kind-preserved
loop-kind-preserved c = (passing_more c.loop-kind.invariant.0 c.loop-kind-test.true (sym c.known.ensures ∙ c.if-not-known.false), ap₂ ◌+◌ c.loop-kind.invariant.1 c.of-bytes.ensures.store ∙ sym (start_next _ _))

pub overflow_cast-long : goal.overflow_cast-long
overflow_cast-long c = omega (arith, c.loop-kind.invariant.1, start_low c.args.kinds.now c.loop-kind.kind-index, c.loop-kind.invariant.0.here, c.requires)

pub returns : goal.returns
returns c =
    let i = c.loop-kind.kind-index in
    let n : i ≡ length c.args.kinds.now = omega (arith, c.loop-kind-test.false, c.loop-kind.invariant.0.here) in
    rw (passing_all c.loop-kind.invariant.0 c.loop-kind-test.false) (ap done (c.loop-kind.invariant.1 ∙ ap (start_of _) n))
