-- `gateway_form::is_direction`.
use Rattle.gateway_form.specs.Form.{directed}
use borrow.Author.Tests.{eq-eqb, ne_eqb}
use Rattle.gateway_form.proofs.is_direction.Goals as goal

pub returns-then-d-eq-INTERLEAVING : goal.returns-then-d-eq-INTERLEAVING
unfolding directed
returns-then-d-eq-INTERLEAVING c = rw (eq-eqb _ _ c.if-d-eq-INTERLEAVING.true)

pub returns-else-d-eq-INTERLEAVING : goal.returns-else-d-eq-INTERLEAVING
unfolding directed
returns-else-d-eq-INTERLEAVING c = rw (ne_eqb _ _ c.if-d-eq-INTERLEAVING.false)
