-- `walks::address_m` is the call of its way.
use Rattle.walks.proofs.address_m.Goals as goal

pub returns : goal.returns
returns c = c.address_by.ensures
