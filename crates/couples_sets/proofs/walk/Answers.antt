-- `couples_sets::walk` is the set's walk for L, the leaf's, at the set's N and P0 to P3; the walk for M is not had.
use Rattle.laws.specs.declared.Way.TheVariants.{Interleaver}
use Rattle.families.specs.Taken.{had_leaf, barred_leaf}
use Rattle.families.specs.Families.{coupled_rule_lem, couples_numbered, couples_n, leaf_in, barred_is}
use Rattle.couples_sets.proofs.walk.Goals as goal

pub walk-requires : goal.walk-requires
walk-requires c = couples_numbered c.requires c.couples_of.ensures

pub returns-in-Interleaver : goal.returns-in-Interleaver
returns-in-Interleaver c =
    let p = c.requires in
    let e = c.couples_of.ensures in
    let w = c.in-Interleaver.is in
    had_leaf _ _ (barred_is w p.which) (leaf_in _ (couples_n p e) (coupled_rule_lem p e) Interleaver w c.walk.ensures)

pub returns-in-Deinterleaver : goal.returns-in-Deinterleaver
returns-in-Deinterleaver c = barred_leaf _ _ (barred_is c.in-Deinterleaver.is c.requires.which)
