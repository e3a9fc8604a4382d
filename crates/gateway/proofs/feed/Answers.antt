-- `gateway::feed`.
use native.Mathlib.Omega.{arith}
use borrow.Author.Tests.{lt-ltb, le-ltb, eq-eqb, ne_eqb}
use Rattle.laws.specs.Members.{fails, passes}
use Rattle.gateway_form.specs.Gateways.{formed_exactly}
use Rattle.gateway.specs.Answers.{feed}
use Rattle.gateway.specs.Turning.{feed_stopped, feed_done}
use mathlib.Core.Bool.{not}
use mathlib.Core.Path.{ap}
use Rattle.gateway.proofs.feed.Goals as goal

pub returns-then-not-well_formed : goal.returns-then-not-well_formed
returns-then-not-well_formed c =
    let a = c.args in
    let call = feed a.store.now a.vessel a.input.now a.out.now in
    let all_of_them = feed_stopped call (rw (fails c.well_formed-2.ensures (ap not c.if-not-well_formed.true))) in record { answer = all_of_them.0; store = all_of_them.1.0; output = all_of_them.1.1 }

pub machines_in-requires : goal.machines_in-requires
machines_in-requires c =
    let t = passes c.well_formed-2.ensures (ap not c.if-not-well_formed.false) in
    let z = (formed_exactly c.args.store.now).0 t in
    omega (arith, z.header)

pub returns-then-v-machines_in : goal.returns-then-v-machines_in
returns-then-v-machines_in c =
    let a = c.args in
    let call = feed a.store.now a.vessel a.input.now a.out.now in
    let t = passes c.well_formed-2.ensures (ap not c.if-not-well_formed.false) in
    let all_of_them = feed_stopped call (rw (t, le-ltb _ _ (rw c.machines_in.ensures.0 at c.if-v-machines_in.true))) in record { answer = all_of_them.0; store = all_of_them.1.0; output = all_of_them.1.1 }

pub returns-then-out-input : goal.returns-then-out-input
returns-then-out-input c =
    let a = c.args in
    let call = feed a.store.now a.vessel a.input.now a.out.now in
    let t = passes c.well_formed-2.ensures (ap not c.if-not-well_formed.false) in
    let all_of_them = feed_stopped call (rw (t, lt-ltb _ _ (rw c.machines_in.ensures.0 at c.if-v-machines_in.false), ne_eqb _ _ c.if-out-input.true)) in record { answer = all_of_them.0; store = all_of_them.1.0; output = all_of_them.1.1 }

pub turn-requires : goal.turn-requires
turn-requires c =
    let t = passes c.well_formed-2.ensures (ap not c.if-not-well_formed.false) in
    (t, rw c.machines_in.ensures.0 at c.if-v-machines_in.false, c.if-out-input.false)

pub returns : goal.returns
returns c =
    let a = c.args in
    let call = feed a.store.now a.vessel a.input.now a.out.now in
    let t = passes c.well_formed-2.ensures (ap not c.if-not-well_formed.false) in
    let all_of_them = feed_done call (rw (t, lt-ltb _ _ (rw c.machines_in.ensures.0 at c.if-v-machines_in.false), eq-eqb _ _ c.if-out-input.false)) c.turn.ensures.store c.turn.ensures.output in record { answer = all_of_them.0; store = all_of_them.1.0; output = all_of_them.1.1 }
