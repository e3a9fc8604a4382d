-- `exports::sums::interleaver_read_sum` is the call on what is lent.
use Rattle.exports.proofs.sums.interleaver_read_sum.Goals as goal

pub returns : goal.returns
returns c = record { number = c.read.ensures.number; sum = c.read.ensures.sum; count = c.read.ensures.count }
