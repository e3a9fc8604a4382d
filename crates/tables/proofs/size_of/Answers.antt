-- `tables::size_of` is how many symbols a block has, and no listed block has above 6,144.
use Rattle.families.specs.Symbols.{symbols_most}
use Rattle.tables.proofs.size_of.Goals as goal

pub returns : goal.returns
returns c = record { size = c.symbols_of.ensures; most = symbols_most _ c.requires }
