-- `couples::all_apart` is the test of the four numbers.
use mathlib.Core.Path.{◌∙◌}
use Rattle.couples.specs.Test.{not_alone, by_turns}
use Rattle.couples.proofs.all_apart.Goals as goal

pub returns-then-gcd_of-ne1 : goal.returns-then-gcd_of-ne1
returns-then-gcd_of-ne1 c = not_alone _ c.gcd_of.ensures c.if-gcd_of-ne1.true

pub returns : goal.returns
returns c = c.turns_differ.ensures ∙ by_turns _ c.gcd_of.ensures c.if-gcd_of-ne1.false
