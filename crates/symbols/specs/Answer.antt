-- A whole block of symbols, N of them or of couples two for each, each of w bytes, moved either way: the output after the call. Over any element in place of a byte.
use Rattle.std.specs.Prelude.{ℕ, ◌*◌, List, length}
use Rattle.laws.specs.declared.Way.{Way}
use Rattle.laws.specs.Outcome.{after}
use Rattle.sets.specs.declared.Set.{Set}
use Rattle.families.specs.Symbols.{symbols_of, block_l}
use Rattle.tables.specs.Answer.{block_lines}
use Rattle.symbol_movers.specs.Grouped.{symbols_by}

-- symbol t of the output is symbol L(t) of the input after interleaving, symbol L(t) of it symbol t after deinterleaving; where a line applies, the
-- output is what it was. L is that of the block's symbols; a block has as many bytes as symbols, times w
unfoldable pub moved_symbols : {A : Type 0} → Way → Set → ℕ → List A → List A → List A
moved_symbols way s w src dst = after (block_lines s (symbols_of s * w) (length src) (length dst)) (symbols_by way (block_l s) (symbols_of s) w src dst) dst
