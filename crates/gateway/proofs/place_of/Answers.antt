-- `gateway::place_of`.
use Prim.Native.Nat.{ℕ}
use mathlib.Core.Path.{ap, ap₂, ◌∙◌}
use native.Mathlib.Omega.{arith}
use lib.ListN.{length}
use borrow.Author.Tests.{lt-ltb, le-ltb}
use Rattle.laws.specs.Members.{fails, passes}
use Rattle.laws.specs.Outcome.{done}
use Rattle.gateway_form.specs.Form.{offset_of, length_of}
use Rattle.gateway_form.specs.Gateways.{formed_exactly, entry_inside}
use Rattle.gateway.specs.Turning.{entry_long, the_entry}
use mathlib.Core.Bool.{not}
use Rattle.gateway.proofs.place_of.Goals as goal

pub returns-then-not-well_formed : goal.returns-then-not-well_formed
returns-then-not-well_formed c = rw (fails c.well_formed-2.ensures (ap not c.if-not-well_formed.true))

pub machines_in-requires : goal.machines_in-requires
machines_in-requires c =
    let t = passes c.well_formed-2.ensures (ap not c.if-not-well_formed.false) in
    let z = (formed_exactly c.args.store.now).0 t in
    omega (arith, z.header)

pub returns-then-v-machines_in : goal.returns-then-v-machines_in
returns-then-v-machines_in c =
    let t = passes c.well_formed-2.ensures (ap not c.if-not-well_formed.false) in
    let z = (formed_exactly c.args.store.now).0 t in
    rw (t, le-ltb _ _ (rw c.machines_in.ensures.0 at c.if-v-machines_in.true))

pub entry_at-entry-requires : goal.entry_at-entry-requires
entry_at-entry-requires c =
    let t = passes c.well_formed-2.ensures (ap not c.if-not-well_formed.false) in
    let z = (formed_exactly c.args.store.now).0 t in
    let h = rw c.machines_in.ensures.0 at c.if-v-machines_in.false in
    entry_inside z _ h

pub offset_of-offset-requires : goal.offset_of-offset-requires
offset_of-offset-requires c =
    let t = passes c.well_formed-2.ensures (ap not c.if-not-well_formed.false) in
    let z = (formed_exactly c.args.store.now).0 t in
    let h = rw c.machines_in.ensures.0 at c.if-v-machines_in.false in
    ap length (c.entry_at-entry.ensures ∙ the_entry _ _) ∙ entry_long z _ h

pub length_of-long-requires : goal.length_of-long-requires
length_of-long-requires c =
    let t = passes c.well_formed-2.ensures (ap not c.if-not-well_formed.false) in
    let z = (formed_exactly c.args.store.now).0 t in
    let h = rw c.machines_in.ensures.0 at c.if-v-machines_in.false in
    ap length (c.entry_at-entry.ensures ∙ the_entry _ _) ∙ entry_long z _ h

pub returns : goal.returns
returns c =
    let t = passes c.well_formed-2.ensures (ap not c.if-not-well_formed.false) in
    let z = (formed_exactly c.args.store.now).0 t in
    let h = rw c.machines_in.ensures.0 at c.if-v-machines_in.false in
    let e = c.entry_at-entry.ensures ∙ the_entry _ _ in
    rw (t, lt-ltb _ _ h) (ap₂ (λ (o n : ℕ). done (record { offset = o; long = n })) (c.offset_of-offset.ensures.0 ∙ ap offset_of e) (c.length_of-long.ensures.0 ∙ ap length_of e))
