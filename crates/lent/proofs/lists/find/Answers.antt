-- `lent::lists::find` hands on what is said of the set that is lent.
use mathlib.Core.Path.{◌≡◌}
use Rattle.laws.specs.Outcome.{say}
use Rattle.walks.specs.Answer.{found_of}
use Rattle.flat.specs.Flat.{set_of}
use Rattle.lent.proofs.lists.find.Goals as goal

pub returns : goal.returns
returns c =
    let said : say c.address_by.result ≡ found_of c.args.way (set_of c.args.set.now) c.args.x = rw (← c.set_of.ensures) c.address_by.ensures in
    record { number = rw (← said) (c.found.ensures.number); address = rw (← said) (c.found.ensures.address) }
