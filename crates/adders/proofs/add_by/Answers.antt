-- `adders::add_by` adds value by value. The loop's invariant: the first t are added.
use Rattle.adders.specs.Adding.{may_hear, added_more}
use Rattle.adders.proofs.add_by.Goals as goal

pub hear-requires : goal.hear-requires
hear-requires c = let may = may_hear c.requires c.loop-t.invariant c.loop-t-test.true in rw (← c.from-a.ensures) at may

pub loop-t-preserved : goal.loop-t-preserved
loop-t-preserved c = let e = c.hear.ensures in added_more c.requires c.loop-t.invariant c.loop-t-test.true (rw c.from-a.ensures at e.sums_after) (rw c.from-a.ensures at e.counts_after)
