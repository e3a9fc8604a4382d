-- The tests in their order, and then the run.
use mathlib.Core.Bool.{false}
use mathlib.Core.Path.{◌≡◌, sym, ◌∙◌}
use lib.ListN.{length}
use borrow.Author.Tests.{eq-eqb, ne_eqb}
use Rattle.kinds.specs.Kinds.{known, sizes_of}
use Rattle.streams.specs.Answers.{call}
use Rattle.streams.specs.Telling.{feeds_refused, feeds_done}
use Rattle.streams.proofs.feed.Goals as goal

pub returns-then-not-known : goal.returns-then-not-known
returns-then-not-known c =
    let a = c.args in
    let kind : known a.s.kind ≡ false = sym c.known.ensures ∙ c.if-not-known.true in
    let e = feeds_refused (call a.way a.s a.store.now a.input.now a.out.now) (rw kind) c.refusal.ensures in
    record { answer = e.0; stream = e.1.0; store = e.1.1.0; output = e.1.1.1 }

pub returns-then-store-of : goal.returns-then-store-of
returns-then-store-of c =
    let a = c.args in
    let kind = sym c.known.ensures ∙ c.if-not-known.false in
    let other = ne_eqb (length a.store.now) (sizes_of a.s.kind).store (λ e. c.if-store-of.true (e ∙ sym c.of.ensures.store)) in
    let e = feeds_refused (call a.way a.s a.store.now a.input.now a.out.now) (rw (kind, other)) c.refusal-then-store-of.ensures in
    record { answer = e.0; stream = e.1.0; store = e.1.1.0; output = e.1.1.1 }

pub returns-then-not-in_range : goal.returns-then-not-in_range
returns-then-not-in_range c =
    let a = c.args in
    let kind = sym c.known.ensures ∙ c.if-not-known.false in
    let store = eq-eqb _ _ (c.if-store-of.false ∙ c.of.ensures.store) in
    let out = sym c.in_range.ensures ∙ c.if-not-in_range.true in
    let e = feeds_refused (call a.way a.s a.store.now a.input.now a.out.now) (rw (kind, store, out)) c.refusal-then-not-in_range.ensures in
    record { answer = e.0; stream = e.1.0; store = e.1.1.0; output = e.1.1.1 }

pub returns-then-out-input : goal.returns-then-out-input
returns-then-out-input c =
    let a = c.args in
    let kind = sym c.known.ensures ∙ c.if-not-known.false in
    let store = eq-eqb _ _ (c.if-store-of.false ∙ c.of.ensures.store) in
    let range = sym c.in_range.ensures ∙ c.if-not-in_range.false in
    let e = feeds_refused (call a.way a.s a.store.now a.input.now a.out.now) (rw (kind, store, range, ne_eqb _ _ c.if-out-input.true)) c.refusal-then-out-input.ensures in
    record { answer = e.0; stream = e.1.0; store = e.1.1.0; output = e.1.1.1 }

pub run-stream-requires : goal.run-stream-requires
run-stream-requires c = (c.if-store-of.false ∙ c.of.ensures.store, sym c.in_range.ensures ∙ c.if-not-in_range.false, c.if-out-input.false)

pub returns : goal.returns
returns c =
    let a = c.args in
    let kind = sym c.known.ensures ∙ c.if-not-known.false in
    let store = eq-eqb _ _ (c.if-store-of.false ∙ c.of.ensures.store) in
    let range = sym c.in_range.ensures ∙ c.if-not-in_range.false in
    let e = feeds_done (call a.way a.s a.store.now a.input.now a.out.now) (rw (kind, store, range, eq-eqb _ _ c.if-out-input.false)) c.run-stream.ensures in
    record { answer = e.0; stream = e.1.0; store = e.1.1.0; output = e.1.1.1 }
