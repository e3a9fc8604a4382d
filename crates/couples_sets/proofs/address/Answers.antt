-- `couples_sets::address` is the set's L or M: the leaf's, at the set's N and P0 to P3.
use mathlib.Core.Path.{◌∙◌}
use Rattle.laws.specs.declared.Way.TheVariants.{Interleaver, Deinterleaver}
use Rattle.families.specs.Families.{coupled_rule_lem, couples_numbered, couples_n, one_in}
use Rattle.couples_sets.proofs.address.Goals as goal

pub address_of-requires : goal.address_of-requires
address_of-requires c =
    let p = c.requires in
    let e = c.couples_of-couples.ensures in
    (couples_numbered p.0 e, rw (couples_n p.0 e) p.1)

pub place_of-requires : goal.place_of-requires
place_of-requires c = couples_numbered c.requires.0 c.couples_of-couples.ensures

pub returns-in-Interleaver : goal.returns-in-Interleaver
returns-in-Interleaver c =
    let p = c.requires.0 in
    let e = c.couples_of-couples.ensures in
    c.address_of.ensures ∙ one_in _ (couples_n p e) (coupled_rule_lem p e) Interleaver c.in-Interleaver.is _

pub returns-in-Deinterleaver : goal.returns-in-Deinterleaver
returns-in-Deinterleaver c =
    let p = c.requires.0 in
    let e = c.couples_of-couples.ensures in
    c.place_of.ensures ∙ one_in _ (couples_n p e) (coupled_rule_lem p e) Deinterleaver c.in-Deinterleaver.is _
