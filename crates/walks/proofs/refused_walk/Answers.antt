-- `walks::refused_walk` puts 1 before what the test of the set says.
use mathlib.Core.Path.{sym, ◌∙◌}
use Rattle.walks.proofs.refused_walk.Goals as goal

pub returns-then-is_barred : goal.returns-then-is_barred
returns-then-is_barred c = rw (sym c.is_barred.ensures ∙ c.if-is_barred.true) c.refusal_of.ensures

pub returns : goal.returns
returns c = rw (sym c.is_barred.ensures ∙ c.if-is_barred.false) c.refusal_of-2.ensures
