-- `quadratic_walk::place_of` is M: the walk stops at the address.
use mathlib.Core.Path.{sym, ◌∙◌}
use native.Mathlib.Nat.{le_antisymm}
use Rattle.laws.specs.Seek.{seek_here, seek_next, seek_end}
use Rattle.quadratic.specs.Formula.{quadratic_m}
use Rattle.quadratic_walk.specs.Spot.{ready_in}
use Rattle.quadratic_walk.proofs.place_of.Goals as goal

pub returns-then-at-a : goal.returns-then-at-a
unfolding quadratic_m
returns-then-at-a c =
    let g = c.loop-t.invariant in
    seek_here g c.loop-t-test.true (sym g.state.value_is ∙ c.if-at-a.true)

pub next-at-requires : goal.next-at-requires
next-at-requires c = let g = c.loop-t.invariant in ready_in g.kept g.state

pub loop-t-preserved : goal.loop-t-preserved
loop-t-preserved c =
    let g = c.loop-t.invariant in
    seek_next g c.loop-t-test.true (λ e. c.if-at-a.false (g.state.value_is ∙ e))
    (c.next-at.ensures.one_on _ _ _ g.kept.twice_is g.state)

pub returns : goal.returns
unfolding quadratic_m
returns c =
    sym (le_antisymm c.loop-t.invariant.far c.loop-t-test.false) ∙ seek_end c.loop-t.invariant c.loop-t-test.false
