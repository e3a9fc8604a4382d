-- `gateway_form::limits::limits_of`.
use Rattle.gateway_form.specs.Limits.{limiting_first, limiting_more, limiting_all, limit_fits}
use Rattle.kinds.specs.Kinds.{sound}
use native.Mathlib.Omega.{arith}
use Rattle.gateway_form.proofs.limits.limits_of.Goals as goal

pub loop-init : goal.loop-init
loop-init c = limiting_first _

pub overflow_add-limit : goal.overflow_add-limit
overflow_add-limit c =
    let z = c.of-z.ensures in
    let k = sound c.args.kind in
    omega (arith, limit_fits c.loop.invariant k.few (omega (arith, z.branches)) k.ring, z.step)

pub loop-preserved : goal.loop-preserved
loop-preserved c =
    let z = c.of-z.ensures in
    let k = sound c.args.kind in
    limiting_more c.loop.invariant k.few (omega (arith, z.branches)) (omega (arith, z.step))

pub returns : goal.returns
returns c =
    let z = c.of-z.ensures in
    let k = sound c.args.kind in
    limiting_all c.loop.invariant k.few (omega (arith, z.branches)) k.some_branches
