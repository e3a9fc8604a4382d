-- `exports::sums::interleaver_add_received` is the call on what is lent.
use Rattle.exports.proofs.sums.interleaver_add_received.Goals as goal

pub returns : goal.returns
returns c = record { number = c.add.ensures.number; sums = c.add.ensures.sums; counts = c.add.ensures.counts }
