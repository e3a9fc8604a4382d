-- Where a sentence of document 01 refuses a block call, the output is what it was.
use Rattle.std.specs.Prelude.{ℕ, List, ◌≡◌, length}
use Rattle.laws.specs.declared.Way.{Way}
use Rattle.laws.specs.Sentences.{FirstTrue}
use Rattle.sets.specs.declared.Set.{Set}
use Rattle.families.specs.Symbols.{symbols_of, block_l}
use Rattle.movers.specs.Moves.{moved_by}
use Rattle.tables.specs.Refusals.{block_sentences}
use Rattle.tables.proofs.Refusals.{buffer_kept}
use Rattle.blocks.specs.Answer.{moved}

pub output_kept : {A : Type 0} (way : Way) (s : Set) (z : A) (src dst : List A) (k : ℕ) → FirstTrue (block_sentences s (symbols_of s) (length src) (length dst)) k
    → moved way s z src dst ≡ dst
unfolding moved
output_kept way s z src dst k h = buffer_kept s (symbols_of s) (length src) (length dst) k h (moved_by way (block_l s) (symbols_of s) z src dst) dst
