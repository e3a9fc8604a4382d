-- `plan_form::place_at` says what stands at a position: nothing past the end, else the address.
use mathlib.Core.Path.{◌∙◌}
use Rattle.plan_form.specs.Lists.{place_absent, place_address}
use Rattle.plan_form.proofs.place_at.Goals as goal

pub returns-then-p-list : goal.returns-then-p-list
returns-then-p-list c = place_absent _ _ _ c.if-p-list.true

pub returns : goal.returns
returns c = place_address _ _ _ c.if-p-list.false (c.from.ensures ∙ c.pair_at.ensures)
