-- `put` writes at a cell's place, or leaves the slice.
use Prim.Native.Nat.{◌≤◌, ◌<◌}
use borrow.Author.Tests.{le-leb, lt-leb}
use lib.Seq.{set_out}
use mathlib.Core.Path.{sym}
use native.Mathlib.Omega.{arith}
use Rattle.wcdma_full.proofs.put.Goals as goal

pub returns-then-place-out : goal.returns-then-place-out
returns-then-place-out c =
    let behind : c.args.first ≤ c.args.cell = omega (arith, c.if-first-cell.true) in
    rw (le-leb _ _ behind)

pub returns-else-place-out : goal.returns-else-place-out
returns-else-place-out c =
    let behind : c.args.first ≤ c.args.cell = omega (arith, c.if-first-cell.true) in
    rw (le-leb _ _ behind) (sym (set_out _ _ _ c.if-place-out.false))

pub returns-else-first-cell : goal.returns-else-first-cell
returns-else-first-cell c = let a = c.args in let h : a.cell < a.first = omega (arith, c.if-first-cell.false) in rw (lt-leb _ _ h)
