-- `lent_sums::add` hands the answer of the call on.
use Rattle.lent_sums.proofs.add.Goals as goal

pub returns : goal.returns
returns c =
    let said = c.add.ensures in
    rw (← c.set_of.ensures, ← said.answer) (record { number = c.number.ensures; sums = said.sums; counts = said.counts })
