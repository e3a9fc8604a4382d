-- `symbol_movers::scatter_by` scatters whole symbols by the table. The loop's invariant: the first t are in place.
use Rattle.std.proofs.Common.{refl}
use Rattle.symbol_movers.specs.Grouped.{scatter_inside, scatter_goes, scatter_ends}
use Rattle.symbol_movers.proofs.scatter_by.Goals as goal

pub copy_symbol-requires-clause-width_in_bounds_2 : goal.copy_symbol-requires-clause-width_in_bounds_2
copy_symbol-requires-clause-width_in_bounds_2 c = let inside = (scatter_inside c.requires c.loop-t.invariant c.loop-t-test.true).1 in rw (← c.from.ensures) at inside

pub loop-t-preserved : goal.loop-t-preserved
loop-t-preserved c = scatter_goes c.requires c.loop-t.invariant c.loop-t-test.true (rw c.from.ensures at c.copy_symbol.ensures) refl

pub returns : goal.returns
returns c = scatter_ends c.requires c.loop-t.invariant c.loop-t-test.false
