-- `gateway_laying::put_shares`.
use Prim.Native.Nat.{◌+◌, ◌-◌, ◌≤◌}
use mathlib.Core.Path.{◌≡◌, ◌∙◌}
use native.Mathlib.Nat.{add-sub_cancel_left}
use native.Mathlib.Omega.{arith}
use lib.ListN.{length, get_or}
use Rattle.kinds.specs.Kinds.{sound}
use Rattle.gateway_laying.specs.Laying.{sharing_first, sharing_end, sharing_more, start_low, start_next, start_inside, kind_at, started_share}
use Rattle.gateway_laying.proofs.put_shares.Goals as goal

pub loop-i-init : goal.loop-i-init
loop-i-init c = sharing_first _ _ _

pub overflow_add-end : goal.overflow_add-end
overflow_add-end c = omega (arith, c.of.ensures.store, (sound (get_or c.args.kinds.now c.loop-i.i 0)).low, start_low c.args.kinds.now c.loop-i.i, c.loop-i.invariant.start, c.loop-i-test.true, c.requires.few)

pub slice_bounds-start-end : goal.slice_bounds-start-end
slice_bounds-start-end c = let g = c.loop-i.invariant in omega (arith, g.start, g.stored.size, c.requires.fits, c.of.ensures.store, start_next c.args.kinds.now c.loop-i.i, start_inside c.args.kinds.now c.loop-i.i c.loop-i-test.true)

pub loop-i-preserved : goal.loop-i-preserved
loop-i-preserved c =
    let a = c.args in
    let g = c.loop-i.invariant in
    let i = c.loop-i.i in
    let at = c.loop-i.at in
    let h = c.loop-i-test.true in
    let z = c.of.ensures.store in
    let n = at + c.of.result.store - at in
    let e : n ≡ c.of.result.store = add-sub_cancel_left at c.of.result.store in
    let room : at + n ≤ length c.loop-i.store = omega (arith, e, z, g.start, g.stored.size, c.requires.fits, start_next a.kinds.now i, start_inside a.kinds.now i h) in
    sharing_more g h (started_share a.kinds.now a.fills.now c.loop-i.store at i n (kind_at a.kinds.now i h c.requires.good) (e ∙ z) room c.start.ensures.store) z

pub returns : goal.returns
returns c = sharing_end c.loop-i.invariant c.loop-i-test.false
