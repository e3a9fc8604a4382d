-- `exports::lists::interleaver_fitting` hands the size of the verdict on.
use Rattle.exports.proofs.lists.interleaver_fitting.Goals as goal

pub returns : goal.returns
returns c = rw (← c.set_of.ensures) c.verdict_size.ensures
