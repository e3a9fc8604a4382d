-- `quadratic_walk::place_of` is M: the walk stops at the address.
use Rattle.quadratic_walk.specs.Spot.{Looking}
use Rattle.quadratic_walk.proofs.place_of.Given as goal

abbrev pub invariant-loop-t : goal.invariant-loop-t
invariant-loop-t l = Looking l.q.k l.q.f1 l.q.f2 l.a l.twice l.at l.t
