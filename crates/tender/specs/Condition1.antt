-- Condition 1 of the tender: a refusal is a number, given exactly when document 01 says, in its order, and it changes no lent byte. Each
-- sentence of 01 is a proposition here. (That every call ends and does nothing undefined is the check itself: no public call has a
-- `requires`.) The stream's calls are in Stream.antt, those for C in Zero.antt and ZeroSums.antt.
use Rattle.std.specs.Prelude.{ℕ, ◌*◌, List, ◌↔◌, ◌≡◌, length}
use Rattle.laws.specs.declared.Way.{Way}
use Rattle.laws.specs.Outcome.{refused}
use Rattle.laws.specs.Sentences.{FirstTrue}
use Rattle.sets.specs.declared.Set.{Set}
use Rattle.sets.specs.Verdict.{refusal, verdict_of}
use Rattle.sets.specs.Refusals.{set_sentences}
use Rattle.sets.proofs.Refusals.{refusal_order_test}
use Rattle.families.specs.Symbols.{symbols_of}
use Rattle.walks.specs.declared.Walk.{Walk}
use Rattle.walks.specs.Answer.{walked_of, slice_of, found_of}
use Rattle.walks.specs.Refusals.{walk_sentences, one_sentences}
use Rattle.walks.proofs.Refusals.{refusal_order_one, slice_kept}
use Rattle.walks.proofs.Refusals as walking
use Rattle.tables.specs.Answer.{moved_of}
use Rattle.tables.specs.Refusals.{block_sentences}
use Rattle.tables.proofs.Refusals.{refusal_order_block}
use Rattle.blocks.specs.Answer.{moved}
use Rattle.blocks.specs.Refusals as blocks
use Rattle.symbols.specs.Answer.{moved_symbols}
use Rattle.symbols.specs.Refusals as symbols

-- "given exactly when document 01 says, in its order": number k is said exactly when sentence k holds and none before it does. FirstTrue ps k
-- says that of the sentences ps; they stand beside each call's lines, 1, 2, 3, 16, 11, 10 first

-- the test of a set: 1, 2, 3, 16, 11, 10
pub refusal_order_set : (s : Set) (k : ℕ) → (verdict_of s ≡ refused (refusal s k)) ↔ FirstTrue (set_sentences s) k
refusal_order_set s k = refusal_order_test s k

-- a walk, for L or for M: 1, for M also of profiles 5, 8 and 9, 2, 3, 16, 11, 10, 9
pub refusal_order_walk : (way : Way) (w : Walk) (room k : ℕ) → (walked_of way w room ≡ refused (refusal w.set k)) ↔ FirstTrue (walk_sentences way w) k
refusal_order_walk way w room k = walking.refusal_order_walk way w room k

-- one address, of L or of M: 1, 2, 3, 16, 11, 10, 4
pub refusal_order_address : (way : Way) (s : Set) (x k : ℕ) → (found_of way s x ≡ refused (refusal s k)) ↔ FirstTrue (one_sentences s x) k
refusal_order_address way s x k = refusal_order_one way s x k

-- a block, either way, of as many symbols or bytes as it must have: 1, 2, 3, 16, 11, 10, 5, 6. That is as many as the block has symbols, N, or of profile 9 2N
-- (symbols_of), for bytes and soft values ..
pub refusal_order_moved : (s : Set) (i o k : ℕ) → (moved_of s (symbols_of s) i o ≡ refused (refusal s k)) ↔ FirstTrue (block_sentences s (symbols_of s) i o) k
refusal_order_moved s i o k = refusal_order_block s (symbols_of s) i o k

-- .. and as many times w for symbols of w bytes
pub refusal_order_symbols : (s : Set) (w i o k : ℕ) → (moved_of s (symbols_of s * w) i o ≡ refused (refusal s k)) ↔ FirstTrue (block_sentences s (symbols_of s * w) i o) k
refusal_order_symbols s w i o k = refusal_order_block s (symbols_of s * w) i o k

-- "and changes no lent byte": then the call says that number and nothing else, and what it was lent is what it was
pub refused_alone_walk : (way : Way) (w : Walk) (old : List ℕ) (k : ℕ) → FirstTrue (walk_sentences way w) k
    → (walked_of way w (length old) ≡ refused (refusal w.set k)) × (slice_of way w old ≡ old)
refused_alone_walk way w old k h = ((walking.refusal_order_walk way w (length old) k).1 h, slice_kept way w old k h)

pub refused_alone_block : {A : Type 0} (way : Way) (s : Set) (z : A) (src dst : List A) (k : ℕ) → FirstTrue (block_sentences s (symbols_of s) (length src) (length dst)) k
    → (moved_of s (symbols_of s) (length src) (length dst) ≡ refused (refusal s k)) × (moved way s z src dst ≡ dst)
refused_alone_block way s z src dst k h = ((refusal_order_block s (symbols_of s) (length src) (length dst) k).1 h, blocks.output_kept way s z src dst k h)

pub refused_alone_symbols : {A : Type 0} (way : Way) (s : Set) (w : ℕ) (src dst : List A) (k : ℕ)
    → FirstTrue (block_sentences s (symbols_of s * w) (length src) (length dst)) k
    → (moved_of s (symbols_of s * w) (length src) (length dst) ≡ refused (refusal s k)) × (moved_symbols way s w src dst ≡ dst)
refused_alone_symbols way s w src dst k h = ((refusal_order_block s (symbols_of s * w) (length src) (length dst) k).1 h, symbols.output_kept way s w src dst k h)
