-- `turbo_sets::address` is the set's L or M: the leaf's, at the set's K.
use mathlib.Core.Path.{refl, ◌∙◌}
use Rattle.laws.specs.declared.Way.TheVariants.{Interleaver, Deinterleaver}
use Rattle.families.specs.Families.{turbo_sized, turbo_rule_lem, one_in}
use Rattle.turbo_sets.proofs.address.Goals as goal

pub address_of-requires : goal.address_of-requires
address_of-requires c = let p = c.requires in (turbo_sized p.0, p.1)

pub place_of-requires : goal.place_of-requires
place_of-requires c = turbo_sized c.requires.0

pub returns-in-Interleaver : goal.returns-in-Interleaver
returns-in-Interleaver c =
    c.address_of.ensures ∙ one_in _ refl (turbo_rule_lem c.requires.0) Interleaver c.in-Interleaver.is _

pub returns-in-Deinterleaver : goal.returns-in-Deinterleaver
returns-in-Deinterleaver c =
    c.place_of.ensures ∙ one_in _ refl (turbo_rule_lem c.requires.0) Deinterleaver c.in-Deinterleaver.is _
