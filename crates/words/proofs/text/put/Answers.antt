-- `words::text::put`: byte by byte, the room written where it is full.
use native.Mathlib.Omega.{arith}
use Rattle.words.specs.Gathered.{put_first, put_goes, put_turns, put_done}
use Rattle.words.proofs.text.put.Goals as goal
use Rattle.words.proofs.text.put.Goals.{then-at-eq-ROOM, else-at-eq-ROOM}

pub loop-b-init : goal.loop-b-init
loop-b-init c = put_first _ _ _ c.min-at.ensures

pub loop-b-preserved : goal.loop-b-preserved
loop-b-preserved c =
    let p = c.loop-b.invariant in
    elim c.if-at-eq-ROOM.branch [
      | then-at-eq-ROOM w ↦ rw w.at-is (put_turns p c.loop-b-test.true (omega (arith, w.if-at-eq-ROOM.true)))
      | else-at-eq-ROOM w ↦ rw w.at-is (put_goes p c.loop-b-test.true (omega (arith, p.few, w.if-at-eq-ROOM.false)))
    ]

pub returns : goal.returns
returns c = put_done c.loop-b.invariant (omega arith)
