-- `plan_writer::put_entry` stores five numbers, one after the other.
use Rattle.plan_writer.specs.Storing.{entry-put}
use Rattle.plan_writer.proofs.put_entry.Goals as goal

pub returns : goal.returns
returns c = entry-put _ _ _ _ c.put_number.ensures c.put_number-2.ensures c.put_number-3.ensures c.put_number-4.ensures c.put_number-5.ensures
