-- `gateway_form::limits::bytes_below`.
use Rattle.gateway_form.specs.Limits.{below_first, below_more, below_not, below_all}
use Rattle.gateway_form.proofs.limits.bytes_below.Goals as goal
use Rattle.gateway_form.proofs.limits.bytes_below.Goals.{else-bytes-i, then-bytes-i}

pub loop-i-init : goal.loop-i-init
loop-i-init c = below_first

pub loop-i-preserved : goal.loop-i-preserved
loop-i-preserved c = elim c.if-bytes-i.branch [ then-bytes-i w ↦ rw w.ok-is (below_not c.loop-i.invariant c.loop-i-test.true w.if-bytes-i.true) | else-bytes-i w ↦ rw w.ok-is (below_more c.loop-i.invariant c.loop-i-test.true w.if-bytes-i.false) ]

pub returns : goal.returns
returns c = below_all c.loop-i.invariant c.loop-i-test.false
