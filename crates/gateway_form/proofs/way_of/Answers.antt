-- `gateway_form::way_of`.
use mathlib.Core.Path.{sym, ◌∙◌}
use borrow.Author.Tests.{eq-eqb, ne_eqb}
use Rattle.gateway_form.proofs.way_of.Goals as goal

pub returns-then-number_at-eq-INTERLEAVING : goal.returns-then-number_at-eq-INTERLEAVING
returns-then-number_at-eq-INTERLEAVING c = rw (eq-eqb _ _ (sym c.number_at.ensures ∙ c.if-number_at-eq-INTERLEAVING.true))

pub returns-else-number_at-eq-INTERLEAVING : goal.returns-else-number_at-eq-INTERLEAVING
returns-else-number_at-eq-INTERLEAVING c = rw (ne_eqb _ _ (λ e. c.if-number_at-eq-INTERLEAVING.false (c.number_at.ensures ∙ e)))
