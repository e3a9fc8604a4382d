-- `exchange` puts the two addresses in their places, in a full rectangle.
use mathlib.Core.Bool.{true}
use mathlib.Core.Path.{◌≡◌, sym, ◌∙◌}
use Rattle.wcdma.specs.Turbo.{full}
use Rattle.wcdma_full.specs.Exchange.{exchange_in}
use Rattle.wcdma_full.proofs.Shaped.{exchange_is, last_is, low_is}
use Rattle.wcdma_full.proofs.exchange.Goals as goal

pub overflow_sub-last : goal.overflow_sub-last
overflow_sub-last c =
    let told : full c.args.shape.k ≡ true = sym c.requires.1 ∙ c.if-whole.true in
    (last_is c.args.shape c.requires.0 told).0

pub overflow_sub-low : goal.overflow_sub-low
overflow_sub-low c =
    let told : full c.args.shape.k ≡ true = sym c.requires.1 ∙ c.if-whole.true in
    (low_is c.args.shape c.requires.0 told).0

pub returns-then-whole : goal.returns-then-whole
returns-then-whole c =
    let told : full c.args.shape.k ≡ true = sym c.requires.1 ∙ c.if-whole.true in
    exchange_is c.args.shape c.requires.0 told _ _ c.put.ensures c.put-then-whole.ensures

pub returns-else-whole : goal.returns-else-whole
unfolding exchange_in
returns-else-whole c = rw (sym c.requires.1 ∙ c.if-whole.false)
