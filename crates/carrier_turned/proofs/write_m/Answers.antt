-- `carrier_turned::write_m` writes M from any cell on: the walk of the two steps, and the pass over it.
use Rattle.carrier_turned.specs.Turned.{within}
use Rattle.carrier_turned.specs.Seam.{taken_off, both_passes}
use Rattle.carrier_turned.proofs.write_m.Goals as goal

pub take_off-requires : goal.take_off-requires
take_off-requires c = taken_off (within c.args.b c.requires.0 c.requires.1) c.write-count.ensures

pub returns : goal.returns
returns c =
    both_passes (within c.args.b c.requires.0 c.requires.1) c.write-count.ensures c.take_off.ensures
