-- `combine::reading_at` by whether it is a blank.
use mathlib.Core.Path.{sym, ◌∙◌}
use Rattle.combine.proofs.reading_at.Goals as goal

pub returns-then-is_blank : goal.returns-then-is_blank
returns-then-is_blank c = rw (sym c.is_blank.ensures ∙ c.if-is_blank.true)

pub returns : goal.returns
returns c = rw (sym c.is_blank.ensures ∙ c.if-is_blank.false)
