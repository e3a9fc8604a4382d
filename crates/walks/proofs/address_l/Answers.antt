-- `walks::address_l` is the call of its way.
use Rattle.walks.proofs.address_l.Goals as goal

pub returns : goal.returns
returns c = c.address_by.ensures
