-- `plan_differ::same_header` compares two headers.
use mathlib.Core.Path.{ap₂}
use Rattle.plan_differ.specs.Differences.{same_header}
use Rattle.plan_differ.proofs.same_header.Goals as goal

pub returns : goal.returns
unfolding same_header
returns c = ap₂ same_header c.set_at-a.ensures c.set_at-b.ensures
