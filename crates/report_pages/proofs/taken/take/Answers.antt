-- `take` keeps no byte behind bytes that settle it, and ends where they do, or where standard input ends.
use mathlib.Core.Path.{◌≡◌}
use native.Mathlib.Omega.{arith}
use Rattle.report_pages.specs.Taken.{ten_settle}
use Rattle.report_pages.proofs.taken.take.Goals as goal

pub returns : goal.returns
returns c =
    let l = c.loop-at in
    let e : l.at ≡ 10 = omega (arith, l.auto.at-end) in
    (rw e at l.invariant.0, ten_settle l.room l.invariant.1)
