-- `exports::lists::interleaver_lte_factors` hands the factors on.
use Rattle.exports.proofs.lists.interleaver_lte_factors.Goals as goal

pub returns : goal.returns
returns c = record { number = rw (← c.factors.ensures) (c.given.ensures.number); factors = rw (← c.factors.ensures) (c.given.ensures.factors) }
