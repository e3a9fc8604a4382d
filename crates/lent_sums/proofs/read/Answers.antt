-- `lent_sums::read` hands on what a position holds.
use mathlib.Core.Path.{◌≡◌}
use Rattle.positions.specs.Heard.{kept}
use Rattle.combine.specs.Answer.{read_of, say_reading}
use Rattle.flat.specs.Flat.{set_of}
use Rattle.lent_sums.proofs.read.Goals as goal

pub returns : goal.returns
returns c =
    let a = c.args in
    let said : say_reading c.read.result ≡ read_of (set_of a.set.now) (kept a.sums.now a.counts.now) a.position = rw (← c.set_of.ensures) c.read.ensures in
    record { number = rw (← said) (c.taken.ensures.number); sum = rw (← said) (c.taken.ensures.sum); count = rw (← said) (c.taken.ensures.count) }
