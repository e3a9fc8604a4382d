-- `plan_form::lists_meet` says whether the lists meet. The loop's invariant: what is left of the test from here is the whole of it.
use Rattle.plan_form.specs.Meets.{Meeting}
use Rattle.plan_form.proofs.lists_meet.Given as goal

abbrev pub invariant-loop-i : goal.invariant-loop-i
invariant-loop-i l = Meeting l.file l.plans l.at l.i
