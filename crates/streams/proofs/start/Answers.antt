-- The tests of the kind and the store, and then the fill.
use Prim.Native.Nat.{ℕ}
use mathlib.Core.Path.{sym, ap, ◌∙◌}
use lib.ListN.{length, replicate}
use borrow.Author.Tests.{eq-eqb, ne_eqb}
use Rattle.kinds.specs.Kinds.{sizes_of}
use Rattle.streams.specs.Fed.{start_store}
use Rattle.streams.specs.Telling.{refusal_of, starts_refused, starts_done}
use Rattle.streams.proofs.start.Goals as goal

pub returns-then-not-known : goal.returns-then-not-known
returns-then-not-known c =
    let a = c.args in
    let kind = sym c.known.ensures ∙ c.if-not-known.true in
    let e = starts_refused a.kind a.f a.store.now (rw kind) (c.refusal.ensures ∙ ap (refusal_of 9) c.new.ensures) in
    record { answer = e.0; stream = e.1.0; store = e.1.1 }

pub returns-then-store-of : goal.returns-then-store-of
returns-then-store-of c =
    let a = c.args in
    let kind = sym c.known.ensures ∙ c.if-not-known.false in
    let other = ne_eqb (length a.store.now) (sizes_of a.kind).store (λ e. c.if-store-of.true (e ∙ sym c.of.ensures.store)) in
    let e = starts_refused a.kind a.f a.store.now (rw (kind, other)) (c.refusal-then-store-of.ensures ∙ ap (refusal_of 7) c.new-then-store-of.ensures) in
    record { answer = e.0; stream = e.1.0; store = e.1.1 }

pub returns : goal.returns
unfolding start_store
returns c =
    let a = c.args in
    let kind = sym c.known.ensures ∙ c.if-not-known.false in
    let long = c.if-store-of.false ∙ c.of.ensures.store in
    let e = starts_done a.kind a.f a.store.now (rw (kind, eq-eqb _ _ long)) c.new-2.ensures (c.fill.ensures ∙ ap (λ (n : ℕ). replicate n a.f) long) in
    record { answer = e.0; stream = e.1.0; store = e.1.1 }
