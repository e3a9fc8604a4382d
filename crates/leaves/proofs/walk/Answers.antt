-- `leaves::walk` asks the family of the set.
use mathlib.Core.Path.{sym, ◌∙◌}
use Rattle.sets.specs.Beside.{the_quadratic, the_coupled}
use Rattle.families.specs.Taken.{the_turbo, the_spatial, the_carrier}
use Rattle.leaves.proofs.walk.Goals as goal

pub walk-requires : goal.walk-requires
walk-requires c =
    record { accepted = c.requires; which = the_spatial _ (sym c.is_spatial.ensures ∙ c.if-is_spatial.true) }

pub walk-requires-then-is_turbo : goal.walk-requires-then-is_turbo
walk-requires-then-is_turbo c =
    record { accepted = c.requires; which = the_turbo _ (sym c.is_turbo.ensures ∙ c.if-is_turbo.true) }

pub walk-requires-then-is_quadratic : goal.walk-requires-then-is_quadratic
walk-requires-then-is_quadratic c =
    record { accepted = c.requires; which = the_quadratic _ (sym c.is_quadratic.ensures ∙ c.if-is_quadratic.true) }

pub walk-requires-then-is_coupled : goal.walk-requires-then-is_coupled
walk-requires-then-is_coupled c =
    record { accepted = c.requires; which = the_coupled _ (sym c.is_coupled.ensures ∙ c.if-is_coupled.true) }

pub walk-requires-2 : goal.walk-requires-2
walk-requires-2 c =
    record {
      accepted = c.requires;
      which = the_carrier _ (sym c.is_turbo.ensures ∙ c.if-is_turbo.false) (sym c.is_spatial.ensures ∙ c.if-is_spatial.false)
          (sym c.is_quadratic.ensures ∙ c.if-is_quadratic.false) (sym c.is_coupled.ensures ∙ c.if-is_coupled.false);
    }
