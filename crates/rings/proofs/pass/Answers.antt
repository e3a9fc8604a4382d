-- The invariant: the bytes of ring 0 below i are passed through.
use mathlib.Core.Path.{refl}
use native.Mathlib.Omega.{arith}
use Rattle.delay.specs.Loops.{passing_none, passing_more, passing_all}
use Rattle.rings.proofs.pass.Goals as goal

pub loop-i-init : goal.loop-i-init
loop-i-init c = passing_none

pub loop-i-preserved : goal.loop-i-preserved
loop-i-preserved c = passing_more c.loop-i.invariant (omega arith) c.requires.2 refl

pub returns : goal.returns
returns c = passing_all c.loop-i.invariant (omega arith)
