-- Condition 2 of the tender for symbols of w bytes: what Condition2.antt says of a block of bytes or of soft values, of one of symbols, each with all its bytes.
use Rattle.std.specs.Prelude.{ℕ, ◌*◌, ◌<◌, List, map, ◌≡◌, length, take, drop}
use Rattle.laws.specs.declared.Way.{Way}
use Rattle.laws.specs.declared.Way.TheVariants.{Interleaver, Deinterleaver}
use Rattle.laws.specs.Outcome.{done}
use Rattle.sets.specs.declared.Set.{Set}
use Rattle.families.specs.Symbols.{symbols_of, block_l, block_m}
use Rattle.tables.specs.Answer.{moved_of}
use Rattle.tables.proofs.Passed.{block_served, answer_one}
use Rattle.blocks.specs.Answer.{moved}
use Rattle.tables.specs.Answer.{blind_answer}
use Rattle.symbols.specs.Answer.{moved_symbols}
use Rattle.symbols.specs.Laws as laws
use Rattle.symbols.specs.Blind as blindness
use Rattle.tender.specs.One as one
use Rattle.tender.specs.Condition2.{Listed, admits}

-- a block of as many bytes as it has symbols, times w, into as many is moved
pub served_symbols : (s : Set) (w : ℕ) {i o : ℕ} → Listed s → i ≡ symbols_of s * w → o ≡ symbols_of s * w → moved_of s (symbols_of s * w) i o ≡ done tt
served_symbols s w l i o = block_served s (symbols_of s * w) ((admits s).0 l) i o

-- interleaved, symbol t of the output is symbol L(t) of the input, L and M being those of the block's symbols ..
module _ {A : Type 0} (s : Set) (l : Listed s) (w : ℕ) (src dst : List A) (i : length src ≡ symbols_of s * w) (o : length dst ≡ symbols_of s * w) where
  pub symbol_source : (t : ℕ) → t < symbols_of s → take w (drop (t * w) (moved_symbols Interleaver s w src dst)) ≡ take w (drop (block_l s t * w) src)
  symbol_source t h = laws.source_of Interleaver s w src dst (served_symbols s w l i o) t h

  -- .. and symbol k of the input is symbol M(k) of the output
  pub symbol_target : (k : ℕ) → k < symbols_of s → take w (drop (block_m s k * w) (moved_symbols Interleaver s w src dst)) ≡ take w (drop (k * w) src)
  symbol_target k h = laws.target_of Interleaver s w src dst (served_symbols s w l i o) k h

  -- deinterleaved, symbol t of the input is symbol L(t) of the output ..
  pub symbol_source_back : (t : ℕ) → t < symbols_of s → take w (drop (block_l s t * w) (moved_symbols Deinterleaver s w src dst)) ≡ take w (drop (t * w) src)
  symbol_source_back t h = laws.target_of Deinterleaver s w src dst (served_symbols s w l i o) t h

  -- .. and symbol k of the output is symbol M(k) of the input
  pub symbol_target_back : (k : ℕ) → k < symbols_of s → take w (drop (k * w) (moved_symbols Deinterleaver s w src dst)) ≡ take w (drop (block_m s k * w) src)
  symbol_target_back k h = laws.source_of Deinterleaver s w src dst (served_symbols s w l i o) k h

  pub symbols_as_long : (way : Way) → length (moved_symbols way s w src dst) ≡ length src
  symbols_as_long way = laws.as_long way s w src dst (served_symbols s w l i o)

-- and it comes back
module _ {A : Type 0} (s : Set) (l : Listed s) (w : ℕ) (src mid out : List A) (i : length src ≡ symbols_of s * w) (m : length mid ≡ symbols_of s * w) (o : length out ≡ symbols_of s * w) where
  pub symbols_there_and_back : moved_symbols Deinterleaver s w (moved_symbols Interleaver s w src mid) out ≡ src
  symbols_there_and_back = laws.there_and_back Interleaver s w src mid out (served_symbols s w l i m) (served_symbols s w l i o)

  pub symbols_back_and_there : moved_symbols Interleaver s w (moved_symbols Deinterleaver s w src mid) out ≡ src
  symbols_back_and_there = laws.there_and_back Deinterleaver s w src mid out (served_symbols s w l i m) (served_symbols s w l i o)

-- no value decides anything
pub symbols_blind : {A B : Type 0} (h : A → B) (way : Way) (s : Set) (w : ℕ) (src dst : List A)
    → (moved_of s (symbols_of s * w) (length (map h src)) (length (map h dst)) ≡ moved_of s (symbols_of s * w) (length src) (length dst))
    × (moved_symbols way s w (map h src) (map h dst) ≡ map h (moved_symbols way s w src dst))
symbols_blind h way s w src dst = (blind_answer h s src dst (symbols_of s * w), blindness.blind h way s w src dst)

-- symbols of one byte are bytes, for every input, refused ones too
pub width_one : {A : Type 0} (way : Way) (s : Set) (z : A) (src dst : List A)
    → (moved_of s (symbols_of s * 1) (length src) (length dst) ≡ moved_of s (symbols_of s) (length src) (length dst)) × (moved_symbols way s 1 src dst ≡ moved way s z src dst)
width_one way s z src dst = (answer_one s (length src) (length dst), one.width_one way s z src dst)
