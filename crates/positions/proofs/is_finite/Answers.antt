-- `positions::is_finite` tests x - x.
use lib.Ieee.{binary32}
use Rattle.positions.specs.Finite.{less_itself}
use Rattle.positions.proofs.is_finite.Goals as goal

pub returns : goal.returns
returns c = less_itself binary32 c.args.x
