-- The first byte of a ring comes in this turn or in the next.
use Rattle.delay.specs.Leading.{leads_on, leads_round}
use Rattle.kinds.proofs.Stream.lead.Goals as goal

pub returns-then-j-m : goal.returns-then-j-m
returns-then-j-m c = let pre = c.requires in rw c.of.ensures.branches (leads_round _ _ _ pre.0 c.ring-j.ensures.0 c.if-j-m.true pre.1)

pub returns-else-j-m : goal.returns-else-j-m
returns-else-j-m c = leads_on _ _ _ c.requires.0 c.ring-j.ensures.0 c.if-j-m.false
