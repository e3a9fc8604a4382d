-- `plan_form::ruling_of` asks for the set's own lines behind its own.
use mathlib.Core.Path.{◌∙◌}
use native.Mathlib.Omega.{arith}
use Rattle.plan_form.specs.Planned.{ruled_past, ruled_set}
use Rattle.plan_form.proofs.ruling_of.Goals as goal

pub returns-then-set-gt-PROFILES : goal.returns-then-set-gt-PROFILES
returns-then-set-gt-PROFILES c = ruled_past c.args.set (omega (arith, c.if-set-gt-PROFILES.true))

pub returns : goal.returns
returns c = c.ruling_of.ensures ∙ ruled_set _ c.if-set-gt-PROFILES.false
