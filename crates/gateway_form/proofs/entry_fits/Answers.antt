-- `gateway_form::entry_fits`.
use native.Mathlib.Omega.{arith}
use mathlib.Core.Path.{◌≡◌, sym, ◌∙◌}
use Prim.Native.Nat.{◌-◌}
use lib.ListN.{length, take, drop, length-drop}
use lib.Seq.{take_all}
use Rattle.gateway_form.specs.Testing.{kind_unknown, not_directed, other_length, branch_out, by_places, of_atsc}
use Rattle.gateway_form.proofs.entry_fits.Goals as goal

pub returns-then-not-known : goal.returns-then-not-known
returns-then-not-known c = kind_unknown _ (rw c.number_at-kind.ensures at (sym c.known.ensures ∙ c.if-not-known.true))

pub returns-then-not-is_direction : goal.returns-then-not-is_direction
returns-then-not-is_direction c =
    let k = rw c.number_at-kind.ensures at (sym c.known.ensures ∙ c.if-not-known.false) in
    not_directed _ k (rw c.number_at.ensures at (sym c.is_direction.ensures ∙ c.if-not-is_direction.true))

pub returns-then-length_of-z : goal.returns-then-length_of-z
returns-then-length_of-z c =
    let k = rw c.number_at-kind.ensures at (sym c.known.ensures ∙ c.if-not-known.false) in
    let d = rw c.number_at.ensures at (sym c.is_direction.ensures ∙ c.if-not-is_direction.false) in
    let z = rw c.number_at-kind.ensures at c.of-z.ensures.store in
    other_length _ k d (λ q. c.if-length_of-z.true (c.length_of.ensures.0 ∙ q ∙ sym z))

pub returns-then-number_at-z : goal.returns-then-number_at-z
returns-then-number_at-z c =
    let k = rw c.number_at-kind.ensures at (sym c.known.ensures ∙ c.if-not-known.false) in
    let d = rw c.number_at.ensures at (sym c.is_direction.ensures ∙ c.if-not-is_direction.false) in
    let z = rw c.number_at-kind.ensures at c.of-z.ensures.store in
    let m = rw c.number_at-kind.ensures at c.of-z.ensures.branches in
    branch_out _ k d (sym c.length_of.ensures.0 ∙ c.if-length_of-z.false ∙ z) (omega (arith, m, c.number_at-2.ensures, c.if-number_at-z.true))

pub returns-then-kind-eq-DVB : goal.returns-then-kind-eq-DVB
returns-then-kind-eq-DVB c =
    let k = rw c.number_at-kind.ensures at (sym c.known.ensures ∙ c.if-not-known.false) in
    let d = rw c.number_at.ensures at (sym c.is_direction.ensures ∙ c.if-not-is_direction.false) in
    let z = rw c.number_at-kind.ensures at c.of-z.ensures.store in
    let m = rw c.number_at-kind.ensures at c.of-z.ensures.branches in
    let e = c.args.entry.now in
    let all : take (length e - 20) (drop 20 e) ≡ drop 20 e = take_all (length e - 20) (drop 20 e) (omega (arith, length-drop 20 e)) in
    c.bytes_below.ensures
    ∙ by_places e k d (sym c.length_of.ensures.0 ∙ c.if-length_of-z.false ∙ z) (omega (arith, m, c.number_at-2.ensures, c.if-number_at-z.false)) _ (rw (sym c.number_at-kind.ensures ∙ c.if-kind-eq-DVB.true) c.requires.1) all

pub returns : goal.returns
returns c =
    let k = rw c.number_at-kind.ensures at (sym c.known.ensures ∙ c.if-not-known.false) in
    let d = rw c.number_at.ensures at (sym c.is_direction.ensures ∙ c.if-not-is_direction.false) in
    let z = rw c.number_at-kind.ensures at c.of-z.ensures.store in
    let m = rw c.number_at-kind.ensures at c.of-z.ensures.branches in
    let e = c.args.entry.now in
    let all : take (length e - 20) (drop 20 e) ≡ drop 20 e = take_all (length e - 20) (drop 20 e) (omega (arith, length-drop 20 e)) in
    c.bytes_below-2.ensures
    ∙ by_places e k d (sym c.length_of.ensures.0 ∙ c.if-length_of-z.false ∙ z) (omega (arith, m, c.number_at-2.ensures, c.if-number_at-z.false)) _ (rw (of_atsc _ (λ q. c.if-kind-eq-DVB.false (c.number_at-kind.ensures ∙ q))) c.requires.2) all
