-- `carrier_rows::address` is L at one cell: the walk's set-up there.
use mathlib.Core.Path.{◌∙◌}
use native.Mathlib.Nat.{le_of_lt}
use Rattle.carrier.specs.Block.{block}
use Rattle.carrier_rows.specs.Along.{set_up, spot_address, spot_small}
use Rattle.carrier_rows.proofs.address.Goals as goal

pub new-requires : goal.new-requires
new-requires c = set_up (block c.args.b.whole (le_of_lt c.requires))

pub address-requires : goal.address-requires
address-requires c = spot_small (block c.args.b.whole (le_of_lt c.requires)) c.requires c.new.ensures

pub returns : goal.returns
returns c = c.address.ensures ∙ spot_address (block c.args.b.whole (le_of_lt c.requires)) c.requires c.new.ensures
