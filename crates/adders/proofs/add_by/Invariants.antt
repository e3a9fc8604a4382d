-- `adders::add_by` adds value by value. The loop's invariant: the first t are added.
use Rattle.positions.specs.Heard.{reception, kept}
use Rattle.adders.specs.Adding.{Added}
use Rattle.adders.proofs.add_by.Given as goal

abbrev pub invariant-loop-t : goal.invariant-loop-t
invariant-loop-t l = Added l.table (reception l.received l.present) (kept l.initial.sums l.initial.counts) l.sums l.counts l.t
