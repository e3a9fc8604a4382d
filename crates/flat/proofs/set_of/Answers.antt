-- `flat::set_of` reads the eight numbers.
use mathlib.Core.Path.{refl}
use Rattle.flat.specs.Flat.{set_of}
use Rattle.flat.proofs.set_of.Goals as goal

pub returns : goal.returns
unfolding set_of
returns c = refl
