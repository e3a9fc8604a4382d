-- `plan_differ::seek` looks for a position. The loop's invariant: the first from here on is the first of all.
use mathlib.Core.Path.{◌≡◌}
use Rattle.plan_form.specs.Lists.{wrongs_from, list_at}
use Rattle.plan_differ.specs.Differences.{next_of}
use Rattle.plan_differ.proofs.seek.Given as goal

abbrev pub invariant-loop-p : goal.invariant-loop-p
invariant-loop-p l = next_of (wrongs_from (list_at l.left l.one) (list_at l.right l.two) l.p) ≡ next_of (wrongs_from (list_at l.left l.one) (list_at l.right l.two) l.from)
