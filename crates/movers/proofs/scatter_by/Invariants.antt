-- `movers::scatter_by` scatters by the table. The loop's invariant: the first i entries are in place, whatever stands in for one that isn't there.
use Rattle.laws.specs.Loop.{Scattered}
use Rattle.movers.proofs.scatter_by.Given as goal

abbrev pub invariant-loop-i : goal.invariant-loop-i
invariant-loop-i g l = (z : _) → Scattered l.table z l.src l.initial.dst l.dst l.i
