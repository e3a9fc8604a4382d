-- The invariant: since the stretch began, the bytes below i are moved, and place is where byte i goes.
use mathlib.Core.Path.{refl}
use native.Mathlib.Omega.{arith}
use Rattle.delay.specs.Loops.{byte_left, stretching_more, stretching_all}
use Rattle.rings.proofs.moves.Goals as goal

pub bounds-input-i : goal.bounds-input-i
bounds-input-i c = byte_left c.loop-place.invariant (omega arith)

pub bounds-out-i : goal.bounds-out-i
bounds-out-i c = let inv = c.loop-place.invariant in omega (arith, byte_left inv (omega arith), inv.room)

pub loop-place-preserved : goal.loop-place-preserved
loop-place-preserved c = stretching_more c.loop-place.invariant (omega arith) refl refl

pub returns : goal.returns
returns c = stretching_all c.loop-place.invariant (omega arith)
