-- `plan_writer::put_entries` stores header after header. The loop's invariant: what is still to be stored, stored from here, makes the whole.
use Rattle.plan_writer.specs.File.{set_at}
use Rattle.plan_writer.specs.Storing.{Entering}
use Rattle.plan_writer.proofs.put_entries.Given as goal

abbrev pub invariant-loop-i : goal.invariant-loop-i
invariant-loop-i l = Entering (set_at l.numbers) l.count l.initial.out l.out l.offset l.i
