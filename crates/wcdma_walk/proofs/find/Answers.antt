-- `find` is the first place of an address. The invariant: its place is i places after its place in the rest.
use native.Mathlib.Omega.{arith}
use Rattle.laws.specs.Position.{position_end, position_here, position_later}
use Rattle.wcdma_walk.proofs.find.Goals as goal

pub returns-then-address-a : goal.returns-then-address-a
returns-then-address-a c =
    let l = c.loop-i in
    let a = c.args in
    omega (arith, l.invariant, position_here a.a a.list.now l.i c.loop-i-test.true c.if-address-a.true)

pub loop-i-preserved : goal.loop-i-preserved
loop-i-preserved c =
    let l = c.loop-i in
    let a = c.args in
    let t = c.loop-i-test.true in
    omega (arith, l.invariant, position_later a.a a.list.now l.i t c.if-address-a.false)

pub returns : goal.returns
returns c =
    let l = c.loop-i in
    let a = c.args in
    omega (arith, l.invariant, position_end a.a a.list.now l.i (omega arith))
