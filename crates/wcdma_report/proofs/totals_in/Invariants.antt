-- `totals_in` adds up what `figures_in` gives for each size.
use Rattle.wcdma_report.specs.Summing.{Summing}
use Rattle.wcdma_report.proofs.totals_in.Given as goal

abbrev pub invariant-loop-k : goal.invariant-loop-k
invariant-loop-k l = Summing l.first l.last l.sizes l.cells l.pads l.k
