-- Where a sentence of document 01 refuses a call on symbols, the output is what it was.
use Rattle.std.specs.Prelude.{ℕ, ◌*◌, List, ◌≡◌, length}
use Rattle.laws.specs.declared.Way.{Way}
use Rattle.laws.specs.Sentences.{FirstTrue}
use Rattle.sets.specs.declared.Set.{Set}
use Rattle.families.specs.Symbols.{symbols_of, block_l}
use Rattle.tables.specs.Refusals.{block_sentences}
use Rattle.tables.proofs.Refusals.{buffer_kept}
use Rattle.symbol_movers.specs.Grouped.{symbols_by}
use Rattle.symbols.specs.Answer.{moved_symbols}

pub output_kept : {A : Type 0} (way : Way) (s : Set) (w : ℕ) (src dst : List A) (k : ℕ)
    → FirstTrue (block_sentences s (symbols_of s * w) (length src) (length dst)) k → moved_symbols way s w src dst ≡ dst
unfolding moved_symbols
output_kept way s w src dst k h = buffer_kept s (symbols_of s * w) (length src) (length dst) k h (symbols_by way (block_l s) (symbols_of s) w src dst) dst
