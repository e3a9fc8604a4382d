-- `positions::is_spoiled` asks one float: the sum that the position would have.
use mathlib.Core.Bool.{not}
use mathlib.Core.Path.{ap, ◌∙◌}
use lib.Ieee.Scale.{finite}
use Rattle.positions.specs.Heard.{running, present_spoils, blank_spoils, none_spoils}
use Rattle.positions.proofs.is_spoiled.Goals as goal

pub returns-then-p-eq1 : goal.returns-then-p-eq1
returns-then-p-eq1 c = let a = c.args in ap not (c.is_finite.ensures ∙ ap finite c.sum_after.ensures) ∙ present_spoils a.p a.v (running a.sum a.count) c.if-p-eq1.true

pub returns-then-count-eq0 : goal.returns-then-count-eq0
returns-then-count-eq0 c = let a = c.args in none_spoils a.p a.v (running a.sum a.count) c.if-p-eq1.false c.if-count-eq0.true

pub returns : goal.returns
returns c = let a = c.args in ap not c.is_finite-2.ensures ∙ blank_spoils a.p a.v (running a.sum a.count) c.if-p-eq1.false c.if-count-eq0.false
