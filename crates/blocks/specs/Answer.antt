-- A whole block of symbols, N of them or of couples two for each, moved either way, over any element: the output after the call.
use Rattle.std.specs.Prelude.{List, length}
use Rattle.laws.specs.declared.Way.{Way}
use Rattle.laws.specs.Outcome.{after}
use Rattle.sets.specs.declared.Set.{Set}
use Rattle.families.specs.Symbols.{symbols_of, block_l}
use Rattle.tables.specs.Answer.{block_lines}
use Rattle.movers.specs.Moves.{moved_by}

-- out[t] = in[L(t)] after interleaving, out[L(t)] = in[t] after deinterleaving, L being that of the block's symbols; where a line applies, what stood
-- there. z is getD's default: an accepted call never reads it
unfoldable pub moved : {A : Type 0} → Way → Set → A → List A → List A → List A
moved way s z src dst = after (block_lines s (symbols_of s) (length src) (length dst)) (moved_by way (block_l s) (symbols_of s) z src dst) dst
