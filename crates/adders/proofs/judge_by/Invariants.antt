-- `adders::judge_by` asks each value three questions. The loop's invariant: the first t are judged.
use Rattle.positions.specs.Heard.{reception, kept}
use Rattle.adders.specs.Judging.{Judged}
use Rattle.adders.proofs.judge_by.Given as goal

abbrev pub invariant-loop-t : goal.invariant-loop-t
invariant-loop-t l =
    Judged l.table (reception l.received l.present) (kept l.sums l.counts) l.high l.spoiled l.full l.t
