-- `exports::lists::interleaver_address_m` is the call of its way.
use Rattle.exports.proofs.lists.interleaver_address_m.Goals as goal

pub returns : goal.returns
returns c = record { number = c.find.ensures.number; address = c.find.ensures.address }
