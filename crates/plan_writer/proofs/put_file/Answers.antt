-- `plan_writer::put_file` stores the number of plans, their headers, and their lists.
use Rattle.plan_writer.specs.Whole.{whole_file}
use Rattle.plan_writer.proofs.put_file.Goals as goal

pub returns : goal.returns
returns c = whole_file c.args.out.now c.requires.0 c.put_number.ensures c.put_entries.ensures c.put_lists.ensures
