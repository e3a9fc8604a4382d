-- `symbol_movers::gather_by` gathers whole symbols by the table. The loop's invariant: the first t are in place.
use Rattle.std.proofs.Common.{refl}
use Rattle.symbol_movers.specs.Grouped.{gather_inside, gather_goes, gather_ends}
use Rattle.symbol_movers.proofs.gather_by.Goals as goal

pub copy_symbol-requires-clause-width_in_bounds : goal.copy_symbol-requires-clause-width_in_bounds
copy_symbol-requires-clause-width_in_bounds c = let inside = (gather_inside c.requires c.loop-t.invariant c.loop-t-test.true).0 in rw (← c.from.ensures) at inside

pub loop-t-preserved : goal.loop-t-preserved
loop-t-preserved c = gather_goes c.requires c.loop-t.invariant c.loop-t-test.true (rw c.from.ensures at c.copy_symbol.ensures) refl

pub returns : goal.returns
returns c = gather_ends c.requires c.loop-t.invariant c.loop-t-test.false
