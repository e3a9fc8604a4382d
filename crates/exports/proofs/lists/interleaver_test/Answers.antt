-- `exports::lists::interleaver_test` hands the verdict on.
use Rattle.exports.proofs.lists.interleaver_test.Goals as goal

pub returns : goal.returns
returns c = rw (← c.set_of.ensures, ← c.test.ensures) c.number.ensures
