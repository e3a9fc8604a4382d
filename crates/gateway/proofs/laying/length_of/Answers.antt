-- `gateway::laying::length_of`.
use mathlib.Core.Path.{◌∙◌}
use borrow.Author.Tests.{le-leb, lt-leb}
use Rattle.gateway.proofs.laying.length_of.Goals as goal

pub returns-then-machines-lt1 : goal.returns-then-machines-lt1
returns-then-machines-lt1 c = rw (lt-leb _ _ c.if-machines-lt1.true)

pub returns-then-machines-gt-MACHINES : goal.returns-then-machines-gt-MACHINES
returns-then-machines-gt-MACHINES c = rw (le-leb _ _ c.if-machines-lt1.false, lt-leb _ _ c.if-machines-gt-MACHINES.true)

pub returns : goal.returns
returns c = c.measure.ensures ∙ rw (le-leb _ _ c.if-machines-lt1.false, le-leb _ _ c.if-machines-gt-MACHINES.false)
