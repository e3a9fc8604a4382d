-- `quadratic_sets::address` is the set's L or M: the leaf's, at the set's block.
use mathlib.Core.Path.{◌∙◌}
use Rattle.laws.specs.declared.Way.TheVariants.{Interleaver, Deinterleaver}
use Rattle.families.specs.Families.{quadratic_k, quadratic_rule_lem, one_in}
use Rattle.quadratic_sets.proofs.address.Goals as goal

pub address_of-requires : goal.address_of-requires
address_of-requires c =
    let p = c.requires in
    rw (quadratic_k p.0 c.block_of-q.ensures) p.1

pub returns-in-Interleaver : goal.returns-in-Interleaver
returns-in-Interleaver c =
    let p = c.requires.0 in
    let e = c.block_of-q.ensures in
    c.address_of.ensures ∙ one_in _ (quadratic_k p e) (quadratic_rule_lem p e) Interleaver c.in-Interleaver.is _

pub returns-in-Deinterleaver : goal.returns-in-Deinterleaver
returns-in-Deinterleaver c =
    let p = c.requires.0 in
    let e = c.block_of-q.ensures in
    c.place_of.ensures ∙ one_in _ (quadratic_k p e) (quadratic_rule_lem p e) Deinterleaver c.in-Deinterleaver.is _
