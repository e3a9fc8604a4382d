-- `couples::offset_of` is Q.
use native.Mathlib.Nat.{div-le_self}
use native.Mathlib.Omega.{arith}
use Rattle.couples.specs.Test.{offset_0, offset_1, offset_2, offset_3}
use Rattle.couples.proofs.offset_of.Goals as goal

pub returns-then-b-eq0 : goal.returns-then-b-eq0
returns-then-b-eq0 c = (offset_0 _ _ c.if-b-eq0.true, omega arith)

pub returns-then-b-eq1 : goal.returns-then-b-eq1
returns-then-b-eq1 c =
    (offset_1 _ _ c.if-b-eq0.false c.if-b-eq1.true, omega (arith, c.requires.small, c.requires.below.p1_in, div-le_self c.args.couples.n 2))

pub returns-then-b-eq2 : goal.returns-then-b-eq2
returns-then-b-eq2 c =
    (offset_2 _ _ c.if-b-eq0.false c.if-b-eq1.false c.if-b-eq2.true, omega (arith, c.requires.small, c.requires.below.p2_in))

pub returns : goal.returns
returns c = (
  offset_3 _ _ c.if-b-eq0.false c.if-b-eq1.false c.if-b-eq2.false,
  omega (arith, c.requires.small, c.requires.below.p3_in, div-le_self c.args.couples.n 2),
)
