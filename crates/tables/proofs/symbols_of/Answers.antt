-- `tables::symbols_of` is how many symbols a block has.
use mathlib.Core.Path.{sym, ◌∙◌}
use Rattle.families.specs.Symbols.{symbols_two, symbols_plain}
use Rattle.tables.proofs.symbols_of.Goals as goal

pub returns-then-is_coupled : goal.returns-then-is_coupled
returns-then-is_coupled c = sym (symbols_two _ (sym c.is_coupled.ensures ∙ c.if-is_coupled.true))

pub returns : goal.returns
returns c = sym (symbols_plain _ (sym c.is_coupled.ensures ∙ c.if-is_coupled.false))
