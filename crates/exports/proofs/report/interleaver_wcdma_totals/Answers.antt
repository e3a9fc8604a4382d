-- `exports::report::interleaver_wcdma_totals` hands the totals on.
use Rattle.exports.proofs.report.interleaver_wcdma_totals.Goals as goal

pub returns : goal.returns
returns c = record { number = rw (← c.totals_of.ensures) (c.summed.ensures.number); totals = rw (← c.totals_of.ensures) (c.summed.ensures.totals) }
