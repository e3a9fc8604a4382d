-- `is_range` is the test of both sizes and of their order.
use mathlib.Core.Bool.{Bool, ◌&&◌}
use mathlib.Core.Path.{ap₂}
use lib.Dec.{leb}
use Rattle.wcdma_report.proofs.is_range.Goals as goal

pub returns : goal.returns
returns c =
    let a = c.args in
    ap₂ (λ (x y : Bool). x && (y && leb a.first a.last)) c.is_size.ensures c.is_size-2.ensures
