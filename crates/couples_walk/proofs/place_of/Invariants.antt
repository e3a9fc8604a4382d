-- `couples_walk::place_of` is M: the walk stops at the couple.
use Rattle.couples_walk.specs.Spot.{Looking}
use Rattle.couples_walk.proofs.place_of.Given as goal

abbrev pub invariant-loop-j : goal.invariant-loop-j
invariant-loop-j l = Looking l.couples l.a l.at l.j
