-- `carrier_sets::walk` is the set's walk: the leaf's, at the set's block.
use Rattle.laws.specs.declared.Way.TheVariants.{Interleaver, Deinterleaver}
use Rattle.families.specs.Taken.{had_leaf}
use Rattle.families.specs.Families.{carrier_n, carrier_rule_lem, leaf_in, barred_is}
use Rattle.carrier_sets.proofs.walk.Goals as goal

pub returns-in-Interleaver : goal.returns-in-Interleaver
returns-in-Interleaver c =
    let p = c.requires in
    let e = c.block_of-b.ensures in
    let w = c.in-Interleaver.is in
    had_leaf _ _ (barred_is w p.which) (leaf_in _ (carrier_n p e) (carrier_rule_lem p e) Interleaver w c.walk.ensures)

pub returns-in-Deinterleaver : goal.returns-in-Deinterleaver
returns-in-Deinterleaver c =
    let p = c.requires in
    let e = c.block_of-b.ensures in
    let w = c.in-Deinterleaver.is in
    had_leaf _ _ (barred_is w p.which) (leaf_in _ (carrier_n p e) (carrier_rule_lem p e) Deinterleaver w c.walk-in-Deinterleaver.ensures)
