-- `carrier_rows::straight` writes L along a part of a row where s is 1. The loop's invariant is that of `along`, with nothing turned.
use Rattle.carrier_rows.specs.Along.{Along}
use Rattle.carrier_rows.specs.Straight.{unturned}
use Rattle.carrier_rows.proofs.straight.Given as goal

abbrev pub invariant-loop-i : goal.invariant-loop-i
invariant-loop-i l = Along l.fn.b.d l.fn.b.n 1 l.row l.col l.from l.stop l.initial.out l.out (unturned l.a) l.i
