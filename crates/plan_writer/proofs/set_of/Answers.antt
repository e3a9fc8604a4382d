-- `plan_writer::set_of` takes three numbers for a set.
use Rattle.plan_writer.specs.File.{set_at}
use Rattle.plan_writer.proofs.set_of.Goals as goal

pub returns : goal.returns
unfolding set_at
returns c = cc
