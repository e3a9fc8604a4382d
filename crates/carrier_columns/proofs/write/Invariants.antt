-- `carrier_columns::write` writes M from any cell on, column by column. The loop's invariant is the law of lanes; the measure is what is left.
use Prim.Native.Nat.{◌-◌}
use Rattle.carrier_columns.specs.Down.{Columns}
use Rattle.carrier_columns.proofs.write.Given as goal

abbrev pub invariant-loop-i : goal.invariant-loop-i
invariant-loop-i l = Columns l.b.d l.b.n l.b.s l.cell l.count l.initial.out l.out l.col l.row l.at l.i

abbrev pub decreases-loop-i : goal.decreases-loop-i
decreases-loop-i l = l.count - l.i
