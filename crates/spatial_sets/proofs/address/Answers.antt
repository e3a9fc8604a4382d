-- `spatial_sets::address` is the set's L or M: the leaf's, at the set's block.
use mathlib.Core.Path.{◌∙◌}
use Rattle.laws.specs.declared.Way.TheVariants.{Interleaver, Deinterleaver}
use Rattle.families.specs.Families.{spatial_n, spatial_rule_lem, one_in}
use Rattle.spatial_sets.proofs.address.Goals as goal

pub one_l-requires : goal.one_l-requires
one_l-requires c = let p = c.requires in rw (spatial_n p.0 c.stream_of-b.ensures) p.1

pub one_m-requires : goal.one_m-requires
one_m-requires c = let p = c.requires in rw (spatial_n p.0 c.stream_of-b.ensures) p.1

pub returns-in-Interleaver : goal.returns-in-Interleaver
returns-in-Interleaver c =
    let p = c.requires.0 in
    let e = c.stream_of-b.ensures in
    c.one_l.ensures ∙ one_in _ (spatial_n p e) (spatial_rule_lem p e) Interleaver c.in-Interleaver.is _

pub returns-in-Deinterleaver : goal.returns-in-Deinterleaver
returns-in-Deinterleaver c =
    let p = c.requires.0 in
    let e = c.stream_of-b.ensures in
    c.one_m.ensures ∙ one_in _ (spatial_n p e) (spatial_rule_lem p e) Deinterleaver c.in-Deinterleaver.is _
