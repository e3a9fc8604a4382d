-- `quadratic_sets::block_of` is the set's block: what holds of every block is what the test of the set has found.
use mathlib.Core.Path.{refl}
use Rattle.families.specs.Families.{quadratic_whole}
use Rattle.quadratic_sets.proofs.block_of.Goals as goal

pub invariant_of-result : goal.invariant_of-result
invariant_of-result c = record { whole = quadratic_whole c.requires refl }
