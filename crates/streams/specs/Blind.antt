-- A machine never looks at a byte: every byte changed by any function, of any type to any other, in the store, the fill and the input alike,
-- it does the same and gives the changed bytes.
use Rattle.std.specs.Prelude.{ℕ, ◌≡◌}
use Rattle.std.proofs.Math.Path.{ap}
use Rattle.std.proofs.Common.{◌∙◌}
use mathlib.Core.List.{List, map}
use Rattle.std.proofs.lemmas.List.{length-map}
use Rattle.laws.specs.Outcome.{Line, judged, after, after_map}
use Rattle.delay.specs.Machine.{slot_of, next_of}
use Rattle.delay.specs.Cuts.{replicate_map, output_map, store_map, record_map}
use Rattle.kinds.specs.declared.Stream.{Stream}
use Rattle.kinds.specs.Kinds.{sizes_of, machine_of, stand_of, start_record}
use Rattle.streams.specs.Fed.{start_store, fed_output, fed_store, fed_record}
use Rattle.streams.specs.Answers.{start_lines, started_of, started_record, started_store, Call, lines_of, says, record_after, store_after, output_after}

module _ {A B : Type 0} (g : A → B) where
  -- a call with every byte changed
  abbrev pub changed : Call A → Call B
  changed c = record { way = c.way; stream = c.stream; store = map g c.store; input = map g c.input; output = map g c.output }

  start_lines_map : (k : ℕ) (store : List A) → start_lines k (map g store) ≡ start_lines k store
  start_lines_map k store = rw (length-map store g)

  feed_lines_map : (c : Call A) → lines_of (changed c) ≡ lines_of c
  feed_lines_map c = rw (length-map c.store g, length-map c.input g, length-map c.output g)

  -- a start, the store and the fill changed
  pub start_blind : (k : ℕ) (store : List A) (f : A)
      → (started_of k (map g store) ≡ started_of k store)
      × (started_record k (map g store) ≡ started_record k store)
      × (started_store k (g f) (map g store) ≡ map g (started_store k f store))
  unfolding start_store
  start_blind k store f = (
    ap (λ (ls : List Line). judged (λ n. n) ls (start_record k)) (start_lines_map k store),
    ap (λ (ls : List Line). after ls (start_record k) (start_record 0)) (start_lines_map k store),
    ap (λ (ls : List Line). after ls (start_store k (g f)) (map g store)) (start_lines_map k store)
        ∙ ap (λ (l : List B). after (start_lines k store) l (map g store)) (replicate_map g (sizes_of k).store f)
        ∙ after_map (map g) (start_lines k store) (start_store k f) store,
  )

  record_same : (c : Call A) → fed_record c.way c.stream (map g c.input) ≡ fed_record c.way c.stream c.input
  unfolding fed_record
  record_same c =
      let M = machine_of c.way c.stream.kind in
      rw (record_map g (slot_of M) (next_of M) c.input (stand_of c.stream))

  -- a feed
  pub feed_blind : (c : Call A)
      → (says (changed c) ≡ says c) × (record_after (changed c) ≡ record_after c)
      × (store_after (changed c) ≡ map g (store_after c)) × (output_after (changed c) ≡ map g (output_after c))
  unfolding fed_output fed_store
  feed_blind c =
      let lines = feed_lines_map c in
      let M = machine_of c.way c.stream.kind in
      let R = stand_of c.stream in (
        ap (λ (ls : List Line). judged (λ k. k) ls (fed_record c.way c.stream (map g c.input))) lines
            ∙ ap (λ (s : Stream). judged (λ k. k) (lines_of c) s) (record_same c),
        ap (λ (ls : List Line). after ls (fed_record c.way c.stream (map g c.input)) c.stream) lines
            ∙ ap (λ (s : Stream). after (lines_of c) s c.stream) (record_same c),
        ap (λ (ls : List Line). after ls (fed_store c.way c.stream (map g c.store) (map g c.input)) (map g c.store)) lines
            ∙ ap (λ (l : List B). after (lines_of c) l (map g c.store)) (store_map g (slot_of M) (next_of M) c.input R c.store)
            ∙ after_map (map g) (lines_of c) (fed_store c.way c.stream c.store c.input) c.store,
        ap (λ (ls : List Line). after ls (fed_output c.way c.stream (map g c.store) (map g c.input)) (map g c.output)) lines
            ∙ ap (λ (l : List B). after (lines_of c) l (map g c.output)) (output_map g (slot_of M) (next_of M) c.input R c.store)
            ∙ after_map (map g) (lines_of c) (fed_output c.way c.stream c.store c.input) c.output,
      )
