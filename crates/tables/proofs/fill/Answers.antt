-- `tables::fill` leaves the symbols of a block in the table: the walk for L from the first cell, and of couples their symbols.
use mathlib.Core.Path.{sym, ◌∙◌}
use borrow.Author.Rules.{rules}
use Rattle.tables.proofs.Passed.{tabled_plain, couples_tabled, tabled_spread}
use Rattle.tables.proofs.fill.Goals as goal

pub spread-requires : goal.spread-requires
spread-requires c =
    let p = c.requires in
    couples_tabled _ p.0 _ p.1 c.walk.ensures (search rules) (sym c.is_coupled.ensures ∙ c.if-is_coupled.true)

pub returns-then-is_coupled : goal.returns-then-is_coupled
returns-then-is_coupled c =
    let p = c.requires in
    tabled_spread _ p.0 _ p.1 c.walk.ensures (search rules) (sym c.is_coupled.ensures ∙ c.if-is_coupled.true) c.spread.ensures

pub returns-else-is_coupled : goal.returns-else-is_coupled
returns-else-is_coupled c =
    let p = c.requires in
    tabled_plain _ p.0 _ p.1 c.walk.ensures (search rules) (sym c.is_coupled.ensures ∙ c.if-is_coupled.false)
