-- `sets::beside::ruling_of` says which line of the factors applies first: each return by the tests that led there.
use mathlib.Core.Path.{sym, ◌∙◌}
use Rattle.sets.specs.Factored.{testable}
use Rattle.sets.proofs.beside.ruling_of.Goals as goal

pub returns-then-not-factors_in : goal.returns-then-not-factors_in
returns-then-not-factors_in c = simp (sym c.factors_in.ensures ∙ c.if-not-factors_in.true)

pub factors_apart-requires : goal.factors_apart-requires
factors_apart-requires c =
    testable c.args.squares c.args.c c.requires (sym c.factors_in.ensures ∙ c.if-not-factors_in.false)

pub returns-then-not-factors_apart : goal.returns-then-not-factors_apart
returns-then-not-factors_apart c =
    simp (sym c.factors_in.ensures ∙ c.if-not-factors_in.false, sym c.factors_apart.ensures ∙ c.if-not-factors_apart.true)

pub returns : goal.returns
returns c =
    simp (sym c.factors_in.ensures ∙ c.if-not-factors_in.false, sym c.factors_apart.ensures ∙ c.if-not-factors_apart.false)
