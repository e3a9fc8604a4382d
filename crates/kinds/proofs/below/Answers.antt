-- The invariant: ok tells whether the places below i are below their limits, and most is the limit of place i.
use Rattle.kinds.specs.Judging.{judging_more, judging_not, judging_all}
use Rattle.kinds.proofs.below.Goals as goal
use Rattle.kinds.proofs.below.Goals.{then-places-i, else-places-i}

pub loop-i-preserved : goal.loop-i-preserved
loop-i-preserved c =
    let g = c.loop-i.invariant in
    let h = c.loop-i-test.true in
    elim c.if-places-i.branch [
      | then-places-i w ↦ rw w.ok-is (judging_not g h w.if-places-i.true)
      | else-places-i w ↦ rw w.ok-is (judging_more g h w.if-places-i.false)
    ]

pub returns : goal.returns
returns c = judging_all c.loop-i.invariant c.loop-i-test.false
