-- `lent::moves::move_block` hands the block call's answer on.
use Rattle.lent.proofs.moves.move_block.Goals as goal

pub returns : goal.returns
returns g c =
    let said = c.move_block.ensures in
    record { number = rw (← c.set_of.ensures, ← said.answer) c.number.ensures; output = λ z. rw (← c.set_of.ensures) (said.output z) }
