-- `flat::records::answered` takes the answer of a start or a feed apart.
use mathlib.Core.Path.{refl}
use Rattle.flat.proofs.records.answered.Goals as goal

pub returns-in-Ok : goal.returns-in-Ok
returns-in-Ok c = record { number = rw c.in-Ok.is (refl); stream = rw c.in-Ok.is (c.numbers_of.ensures) }
