-- `symbol_movers::scatter_by` scatters whole symbols by the table. The loop's invariant: the first t are in place.
use Rattle.symbol_movers.specs.Grouped.{ScatteredSymbols}
use Rattle.symbol_movers.proofs.scatter_by.Given as goal

abbrev pub invariant-loop-t : goal.invariant-loop-t
invariant-loop-t l = ScatteredSymbols l.table l.n l.width l.src l.initial.dst l.dst l.t l.from
