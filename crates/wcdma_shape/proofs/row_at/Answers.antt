-- `row_at` is T(i).
use Prim.Native.Nat.{ℕ}
use borrow.Author.Tests.{le-ltb, lt-ltb}
use lib.ListN.{get_or}
use mathlib.Core.List.{List}
use mathlib.Core.Path.{ap}
use native.Mathlib.Omega.{arith}
use Rattle.wcdma_shape.specs.Orders.{row_at}
use Rattle.wcdma_shape.specs.Shape.{rows_le}
use Rattle.wcdma_shape.proofs.row_at.Goals as goal

pub bounds-order-i : goal.bounds-order-i
bounds-order-i c = let p = c.requires in let l = rows_le c.args.k in omega (arith, p.rows_is, p.below)

pub returns-then-r-lt20 : goal.returns-then-r-lt20
unfolding row_at
returns-then-r-lt20 c = let e = c.requires.rows_is in rw (← e, lt-ltb _ 20 c.if-r-lt20.true)

pub returns-else-r-lt20 : goal.returns-else-r-lt20
unfolding row_at
returns-else-r-lt20 c = let p = c.requires in let e = p.rows_is in rw (← e, le-ltb _ 20 c.if-r-lt20.false) (ap (λ (o : List ℕ). get_or o c.args.i 0) p.order_is)
