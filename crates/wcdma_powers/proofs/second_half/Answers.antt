-- `second_half` takes the first half of the powers from top, one by one.
use Prim.Native.Nat.{◌-◌}
use lib.ListN.{get_or, length-set}
use mathlib.Core.Path.{refl}
use native.Mathlib.Omega.{arith}
use Rattle.wcdma_powers.proofs.Halves.{one_more}
use Rattle.wcdma_powers.proofs.second_half.Goals as goal

pub overflow_sub-s : goal.overflow_sub-s
overflow_sub-s c =
    let l = c.loop-x in let h = c.loop-x-test.true in omega (arith, l.invariant.1.first l.x h, c.requires.low l.x h)

pub loop-x-preserved : goal.loop-x-preserved
loop-x-preserved c =
    let l = c.loop-x in
    let h = c.loop-x-test.true in
    let z = c.requires in
    let a = c.args in (
      simp length-set l.invariant.0,
      one_more (a.top - get_or l.s l.x 0) l.invariant.1 h (omega (arith, l.invariant.0, z.room)) refl,
    )

pub returns : goal.returns
returns c =
    let r = c.loop-x.invariant.1 in
    record { first = r.first; second = λ y h. r.second y (omega (arith, c.loop-x-test.false)) }
