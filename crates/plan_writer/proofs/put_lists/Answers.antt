-- `plan_writer::put_lists` stores list after list. The loop's invariant: what is still to be stored, stored from here, makes the whole.
use native.Mathlib.Omega.{arith}
use mathlib.Core.Path.{refl}
use Rattle.plan_writer.specs.Storing.{enlist_first, enlist_end, enlist_more, next_good, next_fits}
use borrow.Author.Rules.{rules}
use Rattle.plan_writer.proofs.put_lists.Goals as goal

pub loop-i-init : goal.loop-i-init
loop-i-init c = (refl, enlist_first _ c.requires.0)

pub put_list-requires : goal.put_list-requires
put_list-requires c =
    let i = c.loop-i.invariant in (
      next_good i.1.rest c.loop-i-test.true c.set_of-set.ensures,
      omega (arith, next_fits i.1.rest c.loop-i-test.true c.set_of-set.ensures, i.1.size),
      omega (arith, i.0, c.requires.1),
    )

pub overflow_mul-at-in-loop-i : goal.overflow_mul-at-in-loop-i
overflow_mul-at-in-loop-i c = omega (arith, next_fits c.loop-i.invariant.1.rest c.loop-i-test.true c.set_of-set.ensures, c.requires.0.small)

pub overflow_add-at-in-loop-i : goal.overflow_add-at-in-loop-i
overflow_add-at-in-loop-i c = omega (arith, next_fits c.loop-i.invariant.1.rest c.loop-i-test.true c.set_of-set.ensures, c.requires.0.small)

pub loop-i-preserved : goal.loop-i-preserved
loop-i-preserved c = (search rules, enlist_more c.loop-i.invariant.1 c.loop-i-test.true c.set_of-set.ensures c.put_list.ensures)

pub shape_of-out : goal.shape_of-out
shape_of-out c = c.loop-i.invariant.1.size

pub shape_of-piece : goal.shape_of-piece
shape_of-piece c = c.loop-i.invariant.0

pub returns : goal.returns
returns c = enlist_end c.loop-i.invariant.1 c.loop-i-test.false
