-- `symbol_movers::gather_by` gathers whole symbols by the table. The loop's invariant: the first t are in place.
use Rattle.symbol_movers.specs.Grouped.{GatheredSymbols}
use Rattle.symbol_movers.proofs.gather_by.Given as goal

abbrev pub invariant-loop-t : goal.invariant-loop-t
invariant-loop-t l = GatheredSymbols l.table l.n l.width l.src l.initial.dst l.dst l.t l.to
