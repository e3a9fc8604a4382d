-- `couples_walk::place_of` is M: the walk stops at the couple.
use mathlib.Core.Path.{sym, ◌∙◌}
use native.Mathlib.Nat.{le_antisymm}
use Rattle.laws.specs.Seek.{seek_here, seek_next, seek_end}
use Rattle.couples.specs.Formula.{couple_m}
use Rattle.couples_walk.specs.Spot.{ready_in}
use Rattle.couples_walk.proofs.place_of.Goals as goal

pub returns-then-at-a : goal.returns-then-at-a
unfolding couple_m
returns-then-at-a c =
    let g = c.loop-j.invariant in
    seek_here g c.loop-j-test.true (sym g.state.value_is ∙ c.if-at-a.true)

pub next-at-requires : goal.next-at-requires
next-at-requires c = let g = c.loop-j.invariant in ready_in g.kept g.state

pub loop-j-preserved : goal.loop-j-preserved
loop-j-preserved c =
    let g = c.loop-j.invariant in
    seek_next g c.loop-j-test.true (λ e. c.if-at-a.false (g.state.value_is ∙ e)) (c.next-at.ensures.step_of tt _ g.kept g.state)

pub returns : goal.returns
unfolding couple_m
returns c =
    sym (le_antisymm c.loop-j.invariant.far c.loop-j-test.false) ∙ seek_end c.loop-j.invariant c.loop-j-test.false
