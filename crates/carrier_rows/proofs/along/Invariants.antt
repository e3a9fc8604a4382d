-- `carrier_rows::along` writes L along a part of a row. The loop's invariant is the law of a lane.
use Rattle.carrier_rows.specs.Along.{Along}
use Rattle.carrier_rows.proofs.along.Given as goal

abbrev pub invariant-loop-i : goal.invariant-loop-i
invariant-loop-i l = Along l.b.d l.b.n l.b.s l.row l.col l.from l.stop l.initial.out l.out l.at l.i
