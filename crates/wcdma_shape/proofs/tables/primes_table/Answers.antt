-- The table of primes is the list of the definition.
use mathlib.Core.Path.{refl}
use Rattle.wcdma_shape.specs.Rectangle.{primes}
use Rattle.wcdma_shape.proofs.tables.primes_table.Goals as goal

pub returns : goal.returns
unfolding primes
returns c = refl
