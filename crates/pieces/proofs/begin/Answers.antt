-- `pieces::begin`: nothing stands before the first cell.
use mathlib.Core.Path.{refl}
use Rattle.pieces.specs.Pieces.{stands_first}
use Rattle.pieces.proofs.begin.Goals as goal

pub returns : goal.returns
returns c = (refl, stands_first _)
