-- `carrier_rows::write` writes L from any cell on, row by row. The loop's invariant is the law of lanes, and where the row or the room ends; the
-- measure is what is left to write.
use Prim.Native.Nat.{min, ◌+◌, ◌-◌}
use mathlib.Core.Path.{◌≡◌}
use Rattle.carrier_rows.specs.Along.{Rows}
use Rattle.carrier_rows.proofs.write.Given as goal

abbrev pub invariant-loop-i : goal.invariant-loop-i
invariant-loop-i l =
    Rows l.b.d l.b.n l.b.s l.cell l.count l.initial.out l.out l.row l.col l.at l.i × (l.stop ≡ min l.count (l.i + (l.c - l.col)))

abbrev pub decreases-loop-i : goal.decreases-loop-i
decreases-loop-i l = l.count - l.i
