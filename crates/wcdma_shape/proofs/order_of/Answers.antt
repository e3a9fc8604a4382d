-- `order_of` is the row order of a size.
use mathlib.Core.Path.{◌∙◌}
use Rattle.wcdma_shape.proofs.Cases.{which_lt}
use Rattle.wcdma_shape.specs.Orders.{order_of}
use Rattle.wcdma_shape.proofs.order_of.Goals as goal

pub order_at-requires : goal.order_at-requires
order_at-requires c = rw c.which_order.ensures (which_lt _)

pub returns : goal.returns
unfolding order_of
returns c = c.order_at.ensures ∙ rw c.which_order.ensures
