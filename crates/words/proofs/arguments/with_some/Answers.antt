-- `words::arguments::with_some`: the three ways of a word.
use mathlib.Core.Path.{◌∙◌, sym, refl}
use native.Mathlib.Omega.{arith}
use Rattle.words.specs.Joined.WithSome.{named, counted, passed}
use Rattle.words.proofs.arguments.with_some.Goals as goal

pub returns-then-is_named : goal.returns-then-is_named
returns-then-is_named c = named (sym c.is_named.ensures ∙ c.if-is_named.true) c.with_space.ensures refl

pub returns-then-plain-most : goal.returns-then-plain-most
returns-then-plain-most c =
    counted (sym c.is_named.ensures ∙ c.if-is_named.false) (omega arith) c.with_space-then-plain-most.ensures refl

pub returns : goal.returns
returns c = passed (sym c.is_named.ensures ∙ c.if-is_named.false) (omega arith) refl refl refl
