-- `fill` walks the cells. The invariant: the walk stands at row i of column j, with the exponents of the rows there, and has written what comes before.
use Prim.Native.Nat.{ℕ, ◌+◌, ◌*◌, ◌-◌, ◌<◌}
use mathlib.Core.List.{List}
use mathlib.Core.Path.{subst}
use Rattle.laws.specs.Once.{inside}
use Rattle.laws.specs.Written.{Written}
use Rattle.wcdma_shape.specs.Rectangle.{cells, rows}
use Rattle.wcdma_cells.proofs.Place.{Place}
use Rattle.wcdma.specs.Laid.{Exponents, plain}
use Rattle.wcdma_cells.proofs.fill.Given as goal

-- what was written up to row i of column j
abbrev pub WrittenTo : ℕ → ℕ → List ℕ → ℕ → ℕ → List ℕ → ℕ → Type 0
WrittenTo k cell old i j out n = Written (plain k) (inside k) (cells k) cell old (j * rows k + i) out n

-- up to a cell is up to its row and column
pub to : {k m i j cell n : ℕ} {old out : List ℕ} → Place k m i j → Written (plain k) (inside k) (cells k) cell old m out n → WrittenTo k cell old i j out n
to {k} {m} {i} {j} {cell} {n} {old} {out} p w = subst (λ (x : ℕ). Written (plain k) (inside k) (cells k) cell old x out n) p.at w

abbrev pub invariant-loop-j : goal.invariant-loop-j
invariant-loop-j l = (l.i < rows l.shape.k) × Exponents l.shape.k l.i l.j l.e × WrittenTo l.shape.k l.cell l.initial.out l.i l.j l.out l.n

abbrev pub decreases-loop-j : goal.decreases-loop-j
decreases-loop-j l = cells l.shape.k - (l.j * rows l.shape.k + l.i)
