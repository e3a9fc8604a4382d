-- `couples_walk::symbols::spread` spreads the couples to their symbols, from the back.
use Rattle.couples_walk.specs.Spread.{Spreading}
use Rattle.couples_walk.proofs.symbols.spread.Given as goal

abbrev pub invariant-loop-j : goal.invariant-loop-j
invariant-loop-j l = Spreading l.n l.initial.table l.table l.j
