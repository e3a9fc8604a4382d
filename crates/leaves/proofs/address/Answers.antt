-- `leaves::address` asks the family of the set.
use mathlib.Core.Path.{sym, ◌∙◌}
use Rattle.sets.specs.Beside.{the_quadratic, the_coupled}
use Rattle.families.specs.Taken.{the_turbo, the_spatial, the_carrier}
use Rattle.leaves.proofs.address.Goals as goal

pub address-requires : goal.address-requires
address-requires c =
    (record { accepted = c.requires.0; which = the_spatial _ (sym c.is_spatial.ensures ∙ c.if-is_spatial.true) }, c.requires.1)

pub address-requires-then-is_turbo : goal.address-requires-then-is_turbo
address-requires-then-is_turbo c =
    (record { accepted = c.requires.0; which = the_turbo _ (sym c.is_turbo.ensures ∙ c.if-is_turbo.true) }, c.requires.1)

pub address-requires-then-is_quadratic : goal.address-requires-then-is_quadratic
address-requires-then-is_quadratic c =
    (record { accepted = c.requires.0; which = the_quadratic _ (sym c.is_quadratic.ensures ∙ c.if-is_quadratic.true) }, c.requires.1)

pub address-requires-then-is_coupled : goal.address-requires-then-is_coupled
address-requires-then-is_coupled c =
    (record { accepted = c.requires.0; which = the_coupled _ (sym c.is_coupled.ensures ∙ c.if-is_coupled.true) }, c.requires.1)

pub address-requires-2 : goal.address-requires-2
address-requires-2 c = (
  record {
    accepted = c.requires.0;
    which = the_carrier _ (sym c.is_turbo.ensures ∙ c.if-is_turbo.false) (sym c.is_spatial.ensures ∙ c.if-is_spatial.false)
        (sym c.is_quadratic.ensures ∙ c.if-is_quadratic.false) (sym c.is_coupled.ensures ∙ c.if-is_coupled.false);
  },
  c.requires.1,
)
