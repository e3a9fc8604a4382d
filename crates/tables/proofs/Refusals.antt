-- The refusals of a call on a block of so many, in the sentences of document 01, of request 4 for 16 and of requests 6 and 12 for 11 and 10, in their order, and
-- without 8, by request 7: 1, 2, 3, 16, 11, 10, 5, 6. A number is said exactly when its sentence is the first that holds, and then every buffer is what it was.
use Rattle.std.specs.Prelude.{ℕ, ◌↔◌, ◌≡◌}
use Rattle.laws.specs.Outcome.{refused, after}
use Rattle.laws.specs.Sentences.{FirstTrue, Told, none, told_differ, said_exactly, kept_alone}
use Rattle.laws.specs.Told.{told_join}
use Rattle.sets.specs.declared.Set.{Set}
use Rattle.sets.specs.Verdict.{refusal}
use Rattle.sets.proofs.Refusals.{set_told, refusals_apart}
use Rattle.tables.specs.Answer.{block_lines, moved_of}
use Rattle.tables.specs.Refusals.{block_sentences}

block_told : (s : Set) (total i o : ℕ) → Told (Unit {0}) (block_lines s total i o) (block_sentences s total i o)
unfolding block_lines
block_told s total i o = told_join (set_told s) (told_differ 5 i total (told_differ 6 o total none))

pub refusal_order_block : (s : Set) (total i o k : ℕ) → (moved_of s total i o ≡ refused (refusal s k)) ↔ FirstTrue (block_sentences s total i o) k
refusal_order_block s total i o k = said_exactly (block_told s total i o) tt (refusal s) (refusals_apart s) tt k

pub buffer_kept : {B : Type 0} (s : Set) (total i o k : ℕ) → FirstTrue (block_sentences s total i o) k → (new old : B) → after (block_lines s total i o) new old ≡ old
buffer_kept s total i o k h new old = kept_alone (block_told s total i o) tt new old k h
