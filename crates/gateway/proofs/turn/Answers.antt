-- `gateway::turn`.
use mathlib.Core.Path.{ap, ◌∙◌}
use Prim.Native.Nat.{◌+◌, ◌-◌}
use native.Mathlib.Nat.{add-sub_cancel_left}
use native.Mathlib.Omega.{arith}
use lib.Seq.{length-sets}
use lib.ListN.{length}
use Rattle.laws.specs.Parts.{part_back}
use Rattle.gateway_form.specs.Form.{offset_of, length_of, way_of, record_of}
use Rattle.gateway_form.specs.Gateways.{formed_exactly, entry_inside, share_inside}
use Rattle.gateway.specs.Turning.{entry_long, the_entry, turn_told}
use borrow.Author.Rules.{rules}
use Rattle.gateway.proofs.turn.Goals as goal

pub overflow_mul-at : goal.overflow_mul-at
overflow_mul-at c =
    let z = (formed_exactly c.args.store.now).0 c.requires.0 in
    omega (arith, z.few, c.requires.1)

pub overflow_add-at : goal.overflow_add-at
overflow_add-at c =
    let z = (formed_exactly c.args.store.now).0 c.requires.0 in
    omega (arith, z.few, c.requires.1)

pub entry_at-entry-requires : goal.entry_at-entry-requires
entry_at-entry-requires c =
    let z = (formed_exactly c.args.store.now).0 c.requires.0 in
    entry_inside z _ c.requires.1

pub way_of-way-requires : goal.way_of-way-requires
way_of-way-requires c =
    let z = (formed_exactly c.args.store.now).0 c.requires.0 in
    ap length (c.entry_at-entry.ensures ∙ the_entry _ _) ∙ entry_long z _ c.requires.1

pub record_of-s-requires : goal.record_of-s-requires
record_of-s-requires c =
    let z = (formed_exactly c.args.store.now).0 c.requires.0 in
    ap length (c.entry_at-entry.ensures ∙ the_entry _ _) ∙ entry_long z _ c.requires.1

pub offset_of-from-requires : goal.offset_of-from-requires
offset_of-from-requires c =
    let z = (formed_exactly c.args.store.now).0 c.requires.0 in
    ap length (c.entry_at-entry.ensures ∙ the_entry _ _) ∙ entry_long z _ c.requires.1

pub length_of-requires : goal.length_of-requires
length_of-requires c =
    let z = (formed_exactly c.args.store.now).0 c.requires.0 in
    ap length (c.entry_at-entry.ensures ∙ the_entry _ _) ∙ entry_long z _ c.requires.1

pub slice_bounds-feed-end : goal.slice_bounds-feed-end
slice_bounds-feed-end c =
    let z = (formed_exactly c.args.store.now).0 c.requires.0 in
    let a = c.args in
    let e = c.entry_at-entry.ensures ∙ the_entry a.store.now a.v in
    omega (arith, c.offset_of-from.ensures.0 ∙ ap offset_of e, c.length_of.ensures.0 ∙ ap length_of e, share_inside z _ c.requires.1)

pub overflow_add-at-2 : goal.overflow_add-at-2
overflow_add-at-2 c =
    let z = (formed_exactly c.args.store.now).0 c.requires.0 in
    omega (arith, z.few, c.requires.1)

pub put_stand-requires : goal.put_stand-requires
put_stand-requires c =
    let z = (formed_exactly c.args.store.now).0 c.requires.0 in
    let a = c.args in
    let e = c.entry_at-entry.ensures ∙ the_entry a.store.now a.v in
    let from = c.offset_of-from.result in
    let n = c.length_of.result in
    let back = part_back a.store.now from (from + n - from) c.feed-a.new.store (search rules)
    (omega (arith, c.offset_of-from.ensures.0 ∙ ap offset_of e, c.length_of.ensures.0 ∙ ap length_of e, share_inside z a.v c.requires.1)) in
    rw (back, length-sets a.store.now from c.feed-a.new.store) (omega (arith, entry_inside z a.v c.requires.1))

pub returns : goal.returns
returns c =
    let z = (formed_exactly c.args.store.now).0 c.requires.0 in
    let a = c.args in
    let e = c.entry_at-entry.ensures ∙ the_entry a.store.now a.v in
    let from = c.offset_of-from.result in
    let n = c.length_of.result in
    let ran = c.feed-a.ensures in
    let all_of_them = turn_told a.store.now a.v a.input.now a.out.now z c.requires.1 c.requires.2
    (c.way_of-way.ensures ∙ ap way_of e) (c.record_of-s.ensures ∙ ap record_of e) (c.offset_of-from.ensures.0 ∙ ap offset_of e)
    (add-sub_cancel_left from n ∙ c.length_of.ensures.0 ∙ ap length_of e) ran.stream ran.store ran.output c.put_stand.ensures in record { store = all_of_them.0; output = all_of_them.1 }
