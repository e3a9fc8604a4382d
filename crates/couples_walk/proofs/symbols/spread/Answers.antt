-- `couples_walk::symbols::spread` spreads the couples to their symbols, from the back.
use mathlib.Core.Path.{refl}
use Rattle.couples_walk.specs.Spread.{spread_next}
use Rattle.couples_walk.proofs.symbols.spread.Goals as goal

pub loop-j-preserved : goal.loop-j-preserved
loop-j-preserved c = spread_next c.loop-j.invariant c.loop-j-test.true _ _ refl refl c.parity-odd.ensures.0
