-- `quadratic_sets::walk` is the set's walk for L, the leaf's, at the set's block; the walk for M is not had.
use Rattle.laws.specs.declared.Way.TheVariants.{Interleaver}
use Rattle.families.specs.Taken.{had_leaf, barred_leaf}
use Rattle.families.specs.Families.{quadratic_k, quadratic_rule_lem, leaf_in, barred_is}
use Rattle.quadratic_sets.proofs.walk.Goals as goal

pub returns-in-Interleaver : goal.returns-in-Interleaver
returns-in-Interleaver c =
    let p = c.requires in
    let e = c.block_of-q.ensures in
    let w = c.in-Interleaver.is in
    had_leaf _ _ (barred_is w p.which) (leaf_in _ (quadratic_k p e) (quadratic_rule_lem p e) Interleaver w c.walk.ensures)

pub returns-in-Deinterleaver : goal.returns-in-Deinterleaver
returns-in-Deinterleaver c = barred_leaf _ _ (barred_is c.in-Deinterleaver.is c.requires.which)
