-- `plan_form::lists_meet` says whether the lists meet. The loop's invariant: what is left of the test from here is the whole of it.
use native.Mathlib.Omega.{arith}
use Rattle.plan_form.specs.Meets.{meet_first, meet_end, meet_apart, meet_more}
use Rattle.plan_form.proofs.lists_meet.Goals as goal

pub loop-i-init : goal.loop-i-init
loop-i-init c = meet_first _ _ c.requires.0

pub returns-then-list-at : goal.returns-then-list-at
returns-then-list-at c = meet_apart c.loop-i.invariant c.loop-i-test.true c.listing_at-list.ensures.offset_is (λ e. omega (arith, e))

pub loop-i-preserved : goal.loop-i-preserved
loop-i-preserved c =
    let l = c.listing_at-list.ensures in
    meet_more c.loop-i.invariant c.loop-i-test.true l.offset_is (omega arith) l.count_is l.count_small

pub returns : goal.returns
returns c = meet_end c.loop-i.invariant c.loop-i-test.false
