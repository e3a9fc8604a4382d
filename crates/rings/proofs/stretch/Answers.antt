-- The same loop, called with the number itself.
use Rattle.rings.proofs.stretch.Goals as goal

pub returns-in-12 : goal.returns-in-12
returns-in-12 c = rw c.in-12.is c.moves.ensures

pub returns-in-52 : goal.returns-in-52
returns-in-52 c = rw c.in-52.is c.moves-in-52.ensures
