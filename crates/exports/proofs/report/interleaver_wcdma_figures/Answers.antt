-- `exports::report::interleaver_wcdma_figures` hands the figures on.
use Rattle.exports.proofs.report.interleaver_wcdma_figures.Goals as goal

pub returns : goal.returns
returns c = record { number = rw (← c.figures_of.ensures) (c.reported.ensures.number); figures = rw (← c.figures_of.ensures) (c.reported.ensures.figures) }
