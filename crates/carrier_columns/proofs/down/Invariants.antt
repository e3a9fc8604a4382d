-- `carrier_columns::down` writes M down a part of a column. The loop's invariant is the law of a lane.
use Rattle.carrier_columns.specs.Down.{Down}
use Rattle.carrier_columns.proofs.down.Given as goal

abbrev pub invariant-loop-i : goal.invariant-loop-i
invariant-loop-i l = Down l.b.d l.b.n l.b.s l.col l.row l.from l.stop l.initial.out l.out l.at l.i
