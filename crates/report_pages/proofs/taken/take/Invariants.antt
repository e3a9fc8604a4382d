-- `take` keeps no byte behind bytes that settle it, and ends where they do, or where standard input ends.
use mathlib.Core.Path.{◌≡◌}
use lib.ListN.{length}
use Rattle.report_pages.specs.Taken.{Read}
use Rattle.report_pages.proofs.taken.take.Given as goal

abbrev pub invariant-loop-at : goal.invariant-loop-at
invariant-loop-at l = Read l.room l.at × (length l.room ≡ 10)
