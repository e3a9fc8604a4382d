-- `carrier_turned::take_off` takes the turn off each address. What is done is the law of a slice that is filled from the front, by what stood there.
use Prim.Native.Nat.{ℕ}
use mathlib.Core.List.{map}
use mathlib.Core.Path.{◌≡◌, sym, ap, subst, ◌∙◌}
use lib.ListN.{length}
use native.Mathlib.Nat.{zero-add}
use native.Mathlib.Omega.{arith}
use Rattle.laws.specs.Blind.{map_run}
use Rattle.laws.specs.Fill.{Filled, filled_more, filled_left, filled_all}
use Rattle.laws.specs.Loop.{by}
use Rattle.laws.specs.Run.{run_get_or}
use Rattle.carrier_turned.specs.Turned.{off}
use Rattle.carrier_turned.proofs.take_off.Goals as goal

pub loop-a-preserved : goal.loop-a-preserved
loop-a-preserved c =
    let p = c.requires in
    let l = c.loop-a in
    let i = c.loop-a-test.true in
    let e = filled_left _ 0 _ l.out l.a-index 0 l.invariant in
    filled_more _ 0 _ l.out l.a-index c.less.result l.invariant (omega (arith, l.invariant.long))
    (c.less.ensures _ (omega (arith, p.turn_in)) p.turn_in (omega (arith, p.below l.a-index (omega (arith, l.invariant.long)), e))
    ∙ ap (off c.args.n c.args.v) e
    ∙ ap (λ (y : ℕ). off c.args.n c.args.v (by c.args.out.now y)) (sym (zero-add l.a-index)))

pub returns : goal.returns
returns c =
    let old = c.args.out.now in
    let by_turn = off c.args.n c.args.v in
    let all : c.loop-a.a-index ≡ length old = omega (arith, c.loop-a.invariant.long) in
    filled_all _ 0 _ c.loop-a.out (subst (λ (k : ℕ). Filled (λ (y : ℕ). by_turn (by old y)) 0 old c.loop-a.out k) all c.loop-a.invariant)
    ∙ sym (map_run by_turn (by old) 0 (length old))
    ∙ ap (map by_turn) (run_get_or old 0)
