-- `sets::beside::factors_apart` is the test of the addresses, of the family that is asked.
use mathlib.Core.Bool.{Bool}
use mathlib.Core.Path.{ap, sym, subst, ◌∙◌}
use Rattle.sets.specs.Factored.{apart_of, Testable}
use Rattle.sets.proofs.beside.factors_apart.Goals as goal

pub all_apart-requires : goal.all_apart-requires
all_apart-requires c = subst (λ (b : Bool). Testable b c.args.c) c.if-squares.true c.requires

pub returns-then-squares : goal.returns-then-squares
returns-then-squares c = c.all_apart.ensures ∙ ap (λ (b : Bool). apart_of b c.args.c) (sym c.if-squares.true)

pub all_apart-requires-2 : goal.all_apart-requires-2
all_apart-requires-2 c = subst (λ (b : Bool). Testable b c.args.c) c.if-squares.false c.requires

pub returns : goal.returns
returns c = c.all_apart-2.ensures ∙ ap (λ (b : Bool). apart_of b c.args.c) (sym c.if-squares.false)
