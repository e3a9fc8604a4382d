-- The table of row orders is that of the definition.
use mathlib.Core.Path.{refl}
use Rattle.wcdma_shape.specs.Orders.{row_orders}
use Rattle.wcdma_shape.proofs.tables.order_at.Goals as goal

pub returns : goal.returns
unfolding row_orders
returns c = refl
