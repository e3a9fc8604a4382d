-- `one_column` passes the cells of a column. The invariant: the walk has gone on by i cells.
use Prim.Native.Nat.{◌*◌, ◌+◌, ◌≤◌}
use lib.ListN.{length}
use mathlib.Core.Path.{◌≡◌}
use Rattle.wcdma_shape.specs.Rectangle.{rows}
use Rattle.wcdma.specs.Laid.{Exponents}
use Rattle.wcdma_cells.specs.Post.{Goes}
use Rattle.wcdma_cells.proofs.one_column.Given as goal

abbrev pub invariant-loop-i : goal.invariant-loop-i
invariant-loop-i l =
    Exponents l.shape.k l.i l.j l.e × Goes l.shape.k (l.j * rows l.shape.k) l.initial.out l.n (l.j * rows l.shape.k + l.i) l.out l.w × (l.w ≤ l.n + l.i)
    × (length l.out ≡ length l.initial.out)
