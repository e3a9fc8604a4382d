-- `plan_writer::measure` tests set after set. The loop's invariant: what is left of the test from here is the whole of it.
use mathlib.Core.Path.{sym}
use Rattle.plan_writer.specs.Measuring.{measuring_first, measuring_end, measuring_stops, measuring_more}
use borrow.Author.Rules.{rules}
use Rattle.plan_writer.proofs.measure.Goals as goal

pub loop-i-init : goal.loop-i-init
loop-i-init c = measuring_first _ _ c.requires.0

pub returns-in-Err : goal.returns-in-Err
returns-in-Err c = measuring_stops c.loop-i.invariant c.loop-i-test.true c.set_of-set.ensures (sym c.in-Err.ensures) c.refusal_of.ensures

pub loop-i-preserved : goal.loop-i-preserved
loop-i-preserved c = measuring_more c.loop-i.invariant c.loop-i-test.true c.set_of-set.ensures (sym c.in_default.ensures) (search rules)

pub returns : goal.returns
returns c = measuring_end c.loop-i.invariant c.loop-i-test.false
