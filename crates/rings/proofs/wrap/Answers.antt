-- The step past a ring's last place.
use mathlib.Core.Path.{sym}
use Rattle.delay.specs.Turning.{wrap_inside, wrap_end}
use Rattle.rings.proofs.wrap.Goals as goal

pub returns-then-last-place : goal.returns-then-last-place
returns-then-last-place c = sym (wrap_end _ _ _ c.if-last-place.true)

pub returns-else-last-place : goal.returns-else-last-place
returns-else-last-place c = sym (wrap_inside _ _ _ c.if-last-place.false)
