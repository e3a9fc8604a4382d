-- `which_order` is the choice of the row order.
use mathlib.Core.Path.{◌∙◌, sym}
use Rattle.wcdma_shape.specs.Orders.{which_order}
use Rattle.wcdma_shape.proofs.which_order.Goals as goal

pub returns-then-is_within : goal.returns-then-is_within
unfolding which_order
returns-then-is_within c = let e = sym c.is_within.ensures ∙ c.if-is_within.true in rw e

pub returns-then-is_within-2 : goal.returns-then-is_within-2
unfolding which_order
returns-then-is_within-2 c = let a = sym c.is_within.ensures ∙ c.if-is_within.false in let e = sym c.is_within-2.ensures ∙ c.if-is_within-2.true in rw (a, e)

pub returns : goal.returns
unfolding which_order
returns c = let a = sym c.is_within.ensures ∙ c.if-is_within.false in let e = sym c.is_within-2.ensures ∙ c.if-is_within-2.false in rw (a, e)
