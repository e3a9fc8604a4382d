-- `plan_writer::put_lists` stores list after list. The loop's invariant: what is still to be stored, stored from here, makes the whole.
use mathlib.Core.Path.{◌≡◌}
use lib.ListN.{length}
use Rattle.plan_writer.specs.File.{set_at}
use Rattle.plan_writer.specs.Storing.{Enlisting}
use Rattle.plan_writer.proofs.put_lists.Given as goal

abbrev pub invariant-loop-i : goal.invariant-loop-i
invariant-loop-i l = (length l.piece ≡ length l.initial.piece) × Enlisting (set_at l.numbers) l.count l.initial.out l.out l.at l.i
