-- `plan_judge::tally_piece` tallies a piece. The loop's invariant: so many of its positions are tallied.
use Rattle.plan_form.specs.Lists.{list_at}
use Rattle.plan_judge.specs.Tally.{Along}
use Rattle.plan_judge.proofs.tally_piece.Given as goal

abbrev pub invariant-loop-j : goal.invariant-loop-j
invariant-loop-j l = Along (list_at l.file l.list) l.at l.piece l.initial.t l.t l.j
