-- `plan_differ::differ_from` asks plan after plan. The loop's invariant: the first difference from here on is the first of all.
use mathlib.Core.Path.{◌≡◌}
use Rattle.plan_differ.specs.Differences.{next_of, differ_from}
use Rattle.plan_differ.proofs.differ_from.Given as goal

abbrev pub invariant-loop-k : goal.invariant-loop-k
invariant-loop-k l = next_of (differ_from l.left l.right l.k l.p) ≡ next_of (differ_from l.left l.right l.i l.from)
