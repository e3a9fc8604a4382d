-- The refusals of start and feed in the sentences of the paper, in the order of the checks: 9 and 7 of a start; 9, 7, 9 and 6 of a feed.
use Rattle.std.specs.Prelude.{ℕ, Bool, true, false, ◌||◌, ◌≢◌, ◌↔◌, ◌≡◌, refl, List, [], ◌∷◌, length, eqb}
use Rattle.std.proofs.Common.{inl, inr, eqb-true}
use Rattle.laws.specs.Outcome.{refused}
use Rattle.laws.specs.Sentences.{Sentence, sentence, FirstTrue, Told, none, told_differ, said_exactly, kept_alone}
use Rattle.laws.specs.Told.{told_unless}
use Rattle.kinds.specs.Kinds.{known, sizes_of, start_record}
use Rattle.kinds.specs.Ranges.{Ranges, ranges, range_in}
use Rattle.streams.specs.Fed.{start_store, fed_output, fed_store, fed_record}
use Rattle.streams.specs.Answers.{start_lines, started_of, started_record, started_store, Call, lines_of, says, record_after, store_after, output_after}
use Rattle.streams.specs.Refusals.{Known}

pub known_is : (k : ℕ) → known k ≡ true → Known k
unfolding known
known_is k e = go (eqb k 1) refl e
  where
    go : (b : Bool) → eqb k 1 ≡ b → (b || eqb k 2) ≡ true → Known k
    go true q e = inl (eqb-true k 1 q)
    go false q e = inr (eqb-true k 2 e)

pub is_known : (k : ℕ) → Known k → known k ≡ true
unfolding known
is_known k (inl e) = rw e
is_known k (inr e) = rw e

module _ {A : Type 0} where
  -- 9: the kind is unknown; 7: the store isn't the kind's
  abbrev pub start_sentences : ℕ → List A → List Sentence
  start_sentences k store = sentence 9 (Known k → ⊥) ∷ sentence 7 (length store ≢ (sizes_of k).store) ∷ []

  -- 9 and 7 again; 9: the branch or a place is out of its range; 6: the output length isn't the input's
  abbrev pub feed_sentences : Call A → List Sentence
  feed_sentences c =
      sentence 9 (Known c.stream.kind → ⊥)
      ∷ sentence 7 (length c.store ≢ (sizes_of c.stream.kind).store)
      ∷ sentence 9 (Ranges c.stream → ⊥)
      ∷ sentence 6 (length c.output ≢ length c.input)
      ∷ []

  start_told : (k : ℕ) (store : List A) → Told (Unit {0}) (start_lines k store) (start_sentences k store)
  start_told k store = told_unless 9 (λ c. known_is k) (λ c. is_known k) (told_differ 7 (length store) (sizes_of k).store none)

  feed_told : (c : Call A) → Told (Unit {0}) (lines_of c) (feed_sentences c)
  feed_told c =
      let s = c.stream in
      told_unless 9 (λ u. known_is s.kind) (λ u. is_known s.kind)
      (told_differ 7 (length c.store) (sizes_of s.kind).store
      (told_unless 9 (λ u. ranges s) (λ u. range_in s) (told_differ 6 (length c.output) (length c.input) none)))

  -- a number is said exactly when its sentence holds and none before it does
  pub refusal_order_start : (k : ℕ) (store : List A) (n : ℕ) → (started_of k store ≡ refused n) ↔ FirstTrue (start_sentences k store) n
  refusal_order_start k store n = said_exactly (start_told k store) tt (λ i. i) (λ i j e. e) (start_record k) n

  pub refusal_order_feed : (c : Call A) (n : ℕ) → (says c ≡ refused n) ↔ FirstTrue (feed_sentences c) n
  refusal_order_feed c n = said_exactly (feed_told c) tt (λ i. i) (λ i j e. e) (fed_record c.way c.stream c.input) n

  -- where a sentence holds the call says the number alone and changes no byte: a start gives zeros, a feed hands its record back
  pub refused_alone_start : (k : ℕ) (store : List A) (f : A) (n : ℕ) → FirstTrue (start_sentences k store) n
      → (started_of k store ≡ refused n) × (started_record k store ≡ start_record 0) × (started_store k f store ≡ store)
  refused_alone_start k store f n h = (
    (refusal_order_start k store n).1 h,
    kept_alone (start_told k store) tt (start_record k) (start_record 0) n h,
    kept_alone (start_told k store) tt (start_store k f) store n h,
  )

  pub refused_alone_feed : (c : Call A) (n : ℕ) → FirstTrue (feed_sentences c) n
      → (says c ≡ refused n) × (record_after c ≡ c.stream) × (store_after c ≡ c.store) × (output_after c ≡ c.output)
  refused_alone_feed c n h = (
    (refusal_order_feed c n).1 h,
    kept_alone (feed_told c) tt (fed_record c.way c.stream c.input) c.stream n h,
    kept_alone (feed_told c) tt (fed_store c.way c.stream c.store c.input) c.store n h,
    kept_alone (feed_told c) tt (fed_output c.way c.stream c.store c.input) c.output n h,
  )
