-- The invariant: of the ring, the bytes below i are moved, place is where byte i goes, and left bytes are still to come.
use native.Mathlib.Omega.{arith}
use Rattle.delay.specs.Loops.{left_rest, rest_left, least_of, rounds_more, left_after, rounds_all}
use Rattle.rings.proofs.turn.Goals as goal

pub loop-left-preserved : goal.loop-left-preserved
loop-left-preserved c =
    let inv = c.loop-left.invariant in
    let n = least_of inv.0 c.loop-left-test.true c.least-n.ensures in
    let some = left_rest inv.1 c.loop-left-test.true in
    let went = c.stretch-i.ensures in
    (rounds_more inv.0 n.2 went c.wrap-place.ensures, left_after went (omega (arith, some)) n.1 inv.1)

pub returns : goal.returns
returns c = let inv = c.loop-left.invariant in rounds_all inv.0 (omega (arith, rest_left inv.1 c.loop-left-test.false)) c.requires.4
