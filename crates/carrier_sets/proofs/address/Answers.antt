-- `carrier_sets::address` is the set's L or M: the leaf's, at the set's block.
use mathlib.Core.Path.{◌∙◌}
use Rattle.laws.specs.declared.Way.TheVariants.{Interleaver, Deinterleaver}
use Rattle.families.specs.Families.{carrier_n, carrier_rule_lem, one_in}
use Rattle.carrier_sets.proofs.address.Goals as goal

pub address-requires : goal.address-requires
address-requires c = let p = c.requires in rw (carrier_n p.0 c.block_of-b.ensures) p.1

pub address-requires-in-Deinterleaver : goal.address-requires-in-Deinterleaver
address-requires-in-Deinterleaver c = let p = c.requires in rw (carrier_n p.0 c.block_of-b.ensures) p.1

pub returns-in-Interleaver : goal.returns-in-Interleaver
returns-in-Interleaver c =
    let p = c.requires.0 in
    let e = c.block_of-b.ensures in
    c.address.ensures ∙ one_in _ (carrier_n p e) (carrier_rule_lem p e) Interleaver c.in-Interleaver.is _

pub returns-in-Deinterleaver : goal.returns-in-Deinterleaver
returns-in-Deinterleaver c =
    let p = c.requires.0 in
    let e = c.block_of-b.ensures in
    c.address-in-Deinterleaver.ensures ∙ one_in _ (carrier_n p e) (carrier_rule_lem p e) Deinterleaver c.in-Deinterleaver.is _
