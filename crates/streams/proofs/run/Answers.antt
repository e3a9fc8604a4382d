-- A feed, ring by ring. The invariant: the rings below x are done, and first is where ring x begins.
use mathlib.Core.Path.{◌≡◌, sym, ◌∙◌}
use native.Mathlib.Nat.{mod-lt, div-le_self}
use native.Mathlib.Omega.{arith}
use lib.ListN.{length}
use borrow.Author.Rules.{rules}
use Rattle.kinds.specs.Ranges.{ranges, within}
use Rattle.streams.specs.Feeding.{serving_first, first_low, ring_here, ring_short, slot_kept, slot_short, ring_fits, ring_count, serving_next, serving_all}
use Rattle.streams.proofs.run.Goals as goal

pub nonzero_div-turns : goal.nonzero_div-turns
nonzero_div-turns c = c.of-z.ensures.some

pub nonzero_rem-rest : goal.nonzero_rem-rest
nonzero_rem-rest c = c.of-z.ensures.some

pub lead-none-requires : goal.lead-none-requires
lead-none-requires c =
    let z = c.of-z.ensures in
    (omega (arith, z.some, z.branches), (ranges _ c.requires.1).branch)

pub pass-requires : goal.pass-requires
pass-requires c = let z = c.of-z.ensures in (z.some, omega (arith, z.few), c.requires.2)

pub loop-x-init : goal.loop-x-init
loop-x-init c =
    let l : length c.args.s.places ≡ 51 = search rules in
    serving_first (within _ _ c.requires.1 l) c.of-z.ensures c.requires.0 c.requires.2
    c.lead-none.ensures c.pass.ensures

pub overflow_add-last : goal.overflow_add-last
overflow_add-last c = let g = c.loop-x.invariant in omega (arith, ring_short g c.loop-x-test.true, first_low g)

pub lead-i-requires : goal.lead-i-requires
lead-i-requires c = let g = c.loop-x.invariant in (ring_here g c.loop-x-test.true, g.within.branch)

pub left_of-left-requires : goal.left_of-left-requires
left_of-left-requires c =
    omega (arith, div-le_self (length c.args.input.now) c.of-z.result.branches)

pub slot-requires : goal.slot-requires
slot-requires c = let g = c.loop-x.invariant in let h = c.loop-x-test.true in (g.served.some, omega (arith, g.sized.few, h))

pub overflow_add-place : goal.overflow_add-place
overflow_add-place c = let g = c.loop-x.invariant in let h = c.loop-x-test.true in omega (arith, ring_short g h, slot_short g h (c.slot.ensures ∙ slot_kept g h), first_low g)

pub turn-next-requires : goal.turn-next-requires
turn-next-requires c =
    let g = c.loop-x.invariant in
    let h = c.loop-x-test.true in
    let slot = slot_short g h (c.slot.ensures ∙ slot_kept g h) in
    let all = ring_count g h c.lead-i.ensures c.left_of-left.ensures in
    (omega (arith, g.sized.few), omega arith, omega (arith, slot), ring_fits g h, g.served.rings.room, all)

pub overflow_sub-places : goal.overflow_sub-places
overflow_sub-places c = c.turn-next.ensures.low

pub overflow_cast-places : goal.overflow_cast-places
overflow_cast-places c = let g = c.loop-x.invariant in let h = c.loop-x-test.true in omega (arith, c.turn-next.ensures.high, ring_short g h)

pub overflow_sub-places-in-loop-x : goal.overflow_sub-places-in-loop-x
overflow_sub-places-in-loop-x c = c.loop-x.invariant.served.some

pub offset_bounds-places-x : goal.offset_bounds-places-x
offset_bounds-places-x c = let g = c.loop-x.invariant in let h = c.loop-x-test.true in omega (arith, g.sized.few, h)

pub bounds-places-x : goal.bounds-places-x
bounds-places-x c = let g = c.loop-x.invariant in let h = c.loop-x-test.true in omega (arith, g.sized.few, h, g.served.some)

pub overflow_add-size : goal.overflow_add-size
overflow_add-size c = let g = c.loop-x.invariant in let h = c.loop-x-test.true in omega (arith, ring_short g h, g.sized.short)

pub loop-x-preserved : goal.loop-x-preserved
loop-x-preserved c =
    let g = c.loop-x.invariant in
    let h = c.loop-x-test.true in
    serving_next g h c.lead-i.ensures (c.slot.ensures ∙ slot_kept g h) c.turn-next.ensures

pub branch_after-requires : goal.branch_after-requires
branch_after-requires c =
    let z = c.of-z.ensures in
    (omega (arith, z.branches, mod-lt (length c.args.input.now) z.some), c.loop-x.invariant.within.branch)

pub shape_of-store : goal.shape_of-store
shape_of-store c = let g = c.loop-x.invariant.served.rings in g.long ∙ sym g.full

pub shape_of-out : goal.shape_of-out
shape_of-out c = c.loop-x.invariant.served.rings.room ∙ sym c.requires.2

pub returns : goal.returns
returns c = serving_all c.loop-x.invariant c.loop-x-test.false c.branch_after.ensures
