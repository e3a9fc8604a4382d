-- `plan_writer::measure` tests set after set. The loop's invariant: what is left of the test from here is the whole of it.
use Rattle.plan_writer.specs.File.{set_at}
use Rattle.plan_writer.specs.Measuring.{Measuring}
use Rattle.plan_writer.proofs.measure.Given as goal

abbrev pub invariant-loop-i : goal.invariant-loop-i
invariant-loop-i l = Measuring (set_at l.numbers) l.count l.bytes l.i
