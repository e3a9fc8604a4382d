-- `exports::moves::interleaver_interleave_symbols` is the call of its way.
use Rattle.exports.proofs.moves.interleaver_interleave_symbols.Goals as goal

pub returns : goal.returns
returns c = record { number = c.move_symbols.ensures.number; output = c.move_symbols.ensures.output }
