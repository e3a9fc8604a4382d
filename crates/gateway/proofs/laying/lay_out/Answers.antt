-- `gateway::laying::lay_out`.
use mathlib.Core.Path.{sym, ap, ◌∙◌}
use borrow.Author.Tests.{le-leb, lt-leb, eq-eqb, ne_eqb}
use Rattle.laws.specs.Members.{every, fails, passes}
use Rattle.std.proofs.lemmas.Result.{err_from_is_err_and}
use Rattle.laws.specs.Outcome.{refused}
use Rattle.kinds.specs.Kinds.{known}
use Rattle.gateway_laying.specs.Laid.{store_length}
use Rattle.gateway.specs.Telling.{lay_stopped, lay_done, nine, passed_test}
use mathlib.Core.Bool.{not}
use Rattle.gateway.proofs.laying.lay_out.Goals as goal

pub returns-then-machines-lt1 : goal.returns-then-machines-lt1
returns-then-machines-lt1 c =
    let a = c.args in
    let all_of_them = lay_stopped a.kinds.now a.directions.now a.fills.now a.store.now (rw (lt-leb _ _ c.if-machines-lt1.true)) in record { answer = all_of_them.0; store = all_of_them.1 }

pub returns-then-machines-gt-MACHINES : goal.returns-then-machines-gt-MACHINES
returns-then-machines-gt-MACHINES c =
    let a = c.args in
    let all_of_them = lay_stopped a.kinds.now a.directions.now a.fills.now a.store.now (rw (le-leb _ _ c.if-machines-lt1.false, lt-leb _ _ c.if-machines-gt-MACHINES.true)) in record { answer = all_of_them.0; store = all_of_them.1 }

pub returns-then-directions-machines : goal.returns-then-directions-machines
returns-then-directions-machines c =
    let a = c.args in
    let all_of_them = lay_stopped a.kinds.now a.directions.now a.fills.now a.store.now (rw (le-leb _ _ c.if-machines-lt1.false, le-leb _ _ c.if-machines-gt-MACHINES.false, ne_eqb _ _ c.if-directions-machines.true)) in record { answer = all_of_them.0; store = all_of_them.1 }

pub returns-then-fills-machines : goal.returns-then-fills-machines
returns-then-fills-machines c =
    let a = c.args in
    let all_of_them = lay_stopped a.kinds.now a.directions.now a.fills.now a.store.now (rw (le-leb _ _ c.if-machines-lt1.false, le-leb _ _ c.if-machines-gt-MACHINES.false, eq-eqb _ _ c.if-directions-machines.false, ne_eqb _ _ c.if-fills-machines.true)) in record { answer = all_of_them.0; store = all_of_them.1 }

pub returns-then-not-all_directed : goal.returns-then-not-all_directed
returns-then-not-all_directed c =
    let a = c.args in
    let k = passed_test (every known a.kinds.now) (store_length a.kinds.now) (sym c.in_ok-bytes.ensures) in
    let all_of_them = lay_stopped a.kinds.now a.directions.now a.fills.now a.store.now (rw (le-leb _ _ c.if-machines-lt1.false, le-leb _ _ c.if-machines-gt-MACHINES.false, eq-eqb _ _ c.if-directions-machines.false, eq-eqb _ _ c.if-fills-machines.false, k.0, fails c.all_directed.ensures (ap not c.if-not-all_directed.true))) in record { answer = all_of_them.0; store = all_of_them.1 }

pub returns-then-store-bytes : goal.returns-then-store-bytes
returns-then-store-bytes c =
    let a = c.args in
    let k = passed_test (every known a.kinds.now) (store_length a.kinds.now) (sym c.in_ok-bytes.ensures) in
    let all_of_them = lay_stopped a.kinds.now a.directions.now a.fills.now a.store.now (rw (le-leb _ _ c.if-machines-lt1.false, le-leb _ _ c.if-machines-gt-MACHINES.false, eq-eqb _ _ c.if-directions-machines.false, eq-eqb _ _ c.if-fills-machines.false, k.0, passes c.all_directed.ensures (ap not c.if-not-all_directed.false), ne_eqb _ _ (λ e. c.if-store-bytes.true (e ∙ k.1)))) in record { answer = all_of_them.0; store = all_of_them.1 }

pub put_all-requires : goal.put_all-requires
put_all-requires c =
    let a = c.args in
    let k = passed_test (every known a.kinds.now) (store_length a.kinds.now) (sym c.in_ok-bytes.ensures) in
    let few = c.if-machines-gt-MACHINES.false in
    let fits = c.if-store-bytes.false ∙ sym k.1 in (
      record { few = few; good = k.0; equal = c.if-directions-machines.false; fits = fits },
      record { few = few; good = k.0; equal = c.if-fills-machines.false; fits = fits },
    )

pub returns-in_err-bytes : goal.returns-in_err-bytes
returns-in_err-bytes c =
    let a = c.args in
    let k = nine (every known a.kinds.now) (store_length a.kinds.now) (sym c.in_err-bytes.ensures) in
    let all_of_them = lay_stopped a.kinds.now a.directions.now a.fills.now a.store.now (rw (le-leb _ _ c.if-machines-lt1.false, le-leb _ _ c.if-machines-gt-MACHINES.false, eq-eqb _ _ c.if-directions-machines.false, eq-eqb _ _ c.if-fills-machines.false, k.0)) in
    let p = err_from_is_err_and c.from_residual.result c.from_residual.ensures.1 in
    record { answer = rw (p.1, p.2) (ap refused k.1 ∙ all_of_them.0); store = all_of_them.1 }

pub returns : goal.returns
returns c =
    let a = c.args in
    let k = passed_test (every known a.kinds.now) (store_length a.kinds.now) (sym c.in_ok-bytes.ensures) in
    let all_of_them = lay_done a.kinds.now a.directions.now a.fills.now a.store.now (rw (le-leb _ _ c.if-machines-lt1.false, le-leb _ _ c.if-machines-gt-MACHINES.false, eq-eqb _ _ c.if-directions-machines.false, eq-eqb _ _ c.if-fills-machines.false, k.0, passes c.all_directed.ensures (ap not c.if-not-all_directed.false), eq-eqb _ _ (c.if-store-bytes.false ∙ sym k.1))) c.put_all.ensures in record { answer = all_of_them.0; store = all_of_them.1 }
