-- `lent::moves::move_symbols` hands the call's answer on.
use Prim.Native.Nat.{◌*◌}
use mathlib.Core.Path.{◌≡◌}
use lib.ListN.{length}
use Rattle.laws.specs.Outcome.{say}
use Rattle.families.specs.Symbols.{symbols_of}
use Rattle.tables.specs.Answer.{moved_of}
use Rattle.lent.proofs.moves.move_symbols.Goals as goal

pub returns : goal.returns
returns c =
    let said : say c.move_symbols.result ≡ moved_of c.set_of.result (symbols_of c.set_of.result * c.args.width) (length c.args.src.now) (length c.args.dst.now) = c.move_symbols.ensures.answer in
    record { number = rw (← c.set_of.ensures, ← said) c.number.ensures; output = rw (← c.set_of.ensures) c.move_symbols.ensures.output }
