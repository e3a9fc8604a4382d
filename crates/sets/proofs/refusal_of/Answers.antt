-- `sets::refusal_of` makes the refusal of a set: with 3 the size that would have fitted.
use borrow.Author.Tests.{ne_eqb}
use Rattle.sets.specs.Verdict.{refusal}
use Rattle.sets.proofs.refusal_of.Goals as goal

pub returns-then-number-eq3 : goal.returns-then-number-eq3
unfolding refusal
returns-then-number-eq3 c = simp (c.if-number-eq3.true, c.fitting_of.ensures)

pub returns : goal.returns
unfolding refusal
returns c = simp (ne_eqb _ 3 c.if-number-eq3.false)
