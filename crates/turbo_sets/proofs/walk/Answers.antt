-- `turbo_sets::walk` is the set's walk for L, the leaf's, at the set's K; the walk for M is not had.
use mathlib.Core.Path.{refl}
use Rattle.laws.specs.declared.Way.TheVariants.{Interleaver}
use Rattle.families.specs.Taken.{had_leaf, barred_leaf}
use Rattle.families.specs.Families.{turbo_sized, turbo_rule_lem, leaf_in, barred_is}
use Rattle.turbo_sets.proofs.walk.Goals as goal

pub walk-requires : goal.walk-requires
walk-requires c = turbo_sized c.requires

pub returns-in-Interleaver : goal.returns-in-Interleaver
returns-in-Interleaver c =
    let e = c.in-Interleaver.is in
    had_leaf _ _ (barred_is e c.requires.which) (leaf_in _ refl (turbo_rule_lem c.requires) Interleaver e c.walk.ensures)

pub returns-in-Deinterleaver : goal.returns-in-Deinterleaver
returns-in-Deinterleaver c = barred_leaf _ _ (barred_is c.in-Deinterleaver.is c.requires.which)
