-- `sets::beside::factors_in` is the test of the factors' range, of the family that is asked.
use mathlib.Core.Bool.{Bool, ◌&&◌}
use mathlib.Core.Path.{ap, ap₂, sym, ◌∙◌}
use Rattle.sets.specs.Factored.{range_of}
use Rattle.sets.proofs.beside.factors_in.Goals as goal

pub returns-then-squares : goal.returns-then-squares
returns-then-squares c =
    ap₂ ◌&&◌ c.is_within.ensures c.is_within-then-squares.ensures
    ∙ ap (λ (b : Bool). range_of b c.args.c) (sym c.if-squares.true)

pub returns : goal.returns
returns c = c.all_below.ensures ∙ ap (λ (b : Bool). range_of b c.args.c) (sym c.if-squares.false)
