-- `plan_writer::put_entries` stores header after header. The loop's invariant: what is still to be stored, stored from here, makes the whole.
use native.Mathlib.Omega.{arith}
use Rattle.plan_writer.specs.Storing.{enter_first, enter_end, enter_more, next_fits}
use Rattle.plan_writer.proofs.put_entries.Goals as goal

pub loop-i-init : goal.loop-i-init
loop-i-init c = enter_first _ c.requires

pub overflow_cast-offset : goal.overflow_cast-offset
overflow_cast-offset c = omega (arith, next_fits c.loop-i.invariant.rest c.loop-i-test.true c.set_of-set.ensures, c.requires.small)

pub put_entry-requires : goal.put_entry-requires
put_entry-requires c = omega (arith, c.loop-i.invariant.size, c.loop-i-test.true, c.requires.fits)

pub overflow_mul-offset-in-loop-i : goal.overflow_mul-offset-in-loop-i
overflow_mul-offset-in-loop-i c = omega (arith, next_fits c.loop-i.invariant.rest c.loop-i-test.true c.set_of-set.ensures, c.requires.small)

pub overflow_add-offset-in-loop-i : goal.overflow_add-offset-in-loop-i
overflow_add-offset-in-loop-i c = omega (arith, next_fits c.loop-i.invariant.rest c.loop-i-test.true c.set_of-set.ensures, c.requires.small)

pub loop-i-preserved : goal.loop-i-preserved
loop-i-preserved c = enter_more c.loop-i.invariant c.loop-i-test.true c.set_of-set.ensures c.put_entry.ensures

pub shape_of-out : goal.shape_of-out
shape_of-out c = c.loop-i.invariant.size

pub returns : goal.returns
returns c = enter_end c.loop-i.invariant c.loop-i-test.false
