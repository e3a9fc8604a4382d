-- `plan_writer::put_piece` stores a piece. The loop's invariant: what is still to be stored, stored from here, makes the whole.
use Rattle.plan_writer.specs.Listing.{Putting}
use Rattle.plan_writer.proofs.put_piece.Given as goal

abbrev pub invariant-loop-j : goal.invariant-loop-j
invariant-loop-j l = Putting l.initial.out l.at l.piece l.out l.j
