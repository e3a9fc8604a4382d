-- The byte streams in the tender's words: condition 3, and what conditions 1 and 2 say of start and feed. Kind 1 is DVB, with 12 branches and steps of 17
-- bytes, kind 2 is ATSC, with 52 and 4. A call is what the contracts of start, interleave and deinterleave say of it (started_of, started_record,
-- started_store; Call, says, record_after, store_after, output_after). Each theorem is proved beside its subject.
use Rattle.std.specs.Prelude.{ℕ, suc, ◌+◌, ◌-◌, ◌*◌, ◌/◌, ◌%◌, ◌≤◌, ◌<◌, ◌↔◌, List, ◌++◌, map, ◌≡◌, refl, length, get_or, replicate, take}
use Rattle.std.proofs.Common.{sym, ap, ◌∙◌, arith}
use Rattle.laws.specs.Outcome.{done, refused}
use Rattle.laws.specs.Sentences.{FirstTrue}
use Rattle.laws.specs.declared.Way.{Way}
use Rattle.laws.specs.declared.Way.TheVariants.{Interleaver, Deinterleaver}
use Rattle.delay.specs.Machine.{Slot, ring_of, slot_in, start_stand, run_output, run_store, late}
use Rattle.delay.specs.Bytes.{ring_at, row_at, slot_at}
use Rattle.delay.proofs.Standing.{output_number, store_number}
use Rattle.delay.specs.Delay.{late_early, late_from}
use Rattle.kinds.specs.declared.Stream.{Stream}
use Rattle.kinds.specs.Kinds.{sizes_of, start_record}
use Rattle.kinds.specs.Ranges.{Ranges, range_in, within}
use Rattle.streams.specs.declared.Answer.{Answer}
use Rattle.streams.specs.Fed.{start_store, fed_output, fed_store, fed_record}
use Rattle.streams.specs.Answers.{say, started_of, started_record, started_store, Call, call, says, record_after, store_after, output_after}
use Rattle.streams.specs.Answers as answers
use Rattle.streams.specs.Calls.{Fresh, Calls}
use Rattle.streams.proofs.Condition3 as condition3
use Rattle.streams.proofs.Ready as readiness
use Rattle.streams.specs.Ready.{Stood, Ready}
use Rattle.streams.specs.Blind as blindness
use Rattle.streams.specs.Refusals.{Known}
use Rattle.streams.proofs.Refusals.{is_known, start_sentences, feed_sentences}
use Rattle.streams.proofs.Refusals as refusals

-- the two kinds by their numbers: branches, bytes of a step, bytes of the store
pub kinds_are : (sizes_of 1 ≡ record { branches = 12; step = 17; store = 1122 }) × (sizes_of 2 ≡ record { branches = 52; step = 4; store = 5304 })
unfolding sizes_of
kinds_are = (refl, refl)

-- byte m from a record on goes through branch (branch + m) mod branches, and in the ring of step·x bytes that is there to place (the record's place of that
-- ring + m / branches) mod step·x, or through where x is 0
abbrev pub slot_from : Way → Stream → ℕ → Slot
slot_from way s m =
    let b = (sizes_of s.kind).branches in
    let n = (sizes_of s.kind).step in
    let x = ring_of way b ((s.branch + m) % b) in
    slot_in n x ((get_or s.places (x - 1) 0 + m / b) % (n * x))

-- an answer says a number or a record, and hands a record over: these two tell any two answers apart
pub answer_apart : (a b : Answer) → say a ≡ say b → a.stream ≡ b.stream → a ≡ b
answer_apart a b e q = answers.answer_apart a b e q

module _ {A : Type 0} where
  -- condition 3: any calls, cut anywhere, with refused ones between (feeds of either way, with any record, lent any part of the store for their
  -- store, their output or both; starts of any kind lent any part of it), are one run over the joined input: its output, its record, its store
  pub one_run : {way : Way} {s s' : Stream} {store xs ys store' : List A} → Calls way s store xs ys s' store'
      → (ys ≡ fed_output way s store xs) × (s' ≡ fed_record way s xs) × (store' ≡ fed_store way s store xs)
  one_run calls = let r = condition3.one_run calls in (r.output, r.next, r.stored)

  -- what comes out is as long as what went in
  pub as_long : {way : Way} {s s' : Stream} {store xs ys store' : List A} → Calls way s store xs ys s' store' → length ys ≡ length xs
  as_long calls = condition3.as_long calls

  -- a start of kind 1 or 2 in a store of its length is done, and so is a feed of such a kind with such a store, branch and places in their ranges and
  -- an output as long as the input
  pub served_start : (k : ℕ) (lent : List A) (f : A) → Known k → length lent ≡ (sizes_of k).store → Fresh k f (start_record k) (start_store k f)
  served_start k lent f e l = readiness.served_start k lent f (is_known k e) l

  pub served_feed : (c : Call A) → Known c.stream.kind → length c.store ≡ (sizes_of c.stream.kind).store → Ranges c.stream
      → length c.output ≡ length c.input → says c ≡ done (fed_record c.way c.stream c.input)
  served_feed c k l r e = readiness.served_feed c (is_known c.stream.kind k) l (range_in c.stream r) e

  -- and a whole stream may be fed at once: its one feed, from a start's record and store, is such calls
  pub at_once : (way : Way) (k : ℕ) (f : A) (xs : List A) → Known k
      → Calls way (start_record k) (start_store k f) xs
      (fed_output way (start_record k) (start_store k f) xs) (fed_record way (start_record k) xs) (fed_store way (start_record k) (start_store k f) xs)
  at_once way k f xs e = readiness.at_once (readiness.ready_start k f (is_known k e)) way xs

  -- from a start with f: that run begins with start's own record and store, and it ends with a record that tells how many bytes were fed (Stood): the
  -- branch is their number modulo the branches, and the place of ring x the number of the ring's own bytes modulo its length
  pub one_run_started : {way : Way} {k : ℕ} {f : A} {s s' : Stream} {store xs ys store' : List A} → Fresh k f s store → Calls way s store xs ys s' store'
      → (ys ≡ fed_output way (start_record k) (start_store k f) xs) × Stood way k (length xs) s' × (store' ≡ fed_store way (start_record k) (start_store k f) xs)
  one_run_started fresh calls =
      let b = condition3.begun fresh in
      let r = condition3.one_run calls in
      (r.output ∙ rw (b.0, b.1), readiness.stood fresh calls, r.stored ∙ rw (b.0, b.1))

  -- a byte that is d late: f, or the byte d before
  by_delay : (f : A) (d : ℕ) (xs : List A) (t : ℕ) {y : A} → y ≡ late f d (λ n. get_or xs n f) t
      → (t < d → y ≡ f) × (d ≤ t → y ≡ get_or xs (t - d) f)
  by_delay f d xs t e = (
    λ early. e ∙ late_early f d (λ n. get_or xs n f) t early,
    λ there.
        let k : t - d + d ≡ t = omega (arith, there) in
        e ∙ sym (ap (late f d (λ n. get_or xs n f)) k) ∙ late_from f d (λ n. get_or xs n f) (t - d),
  )

  module _ {f : A} {s s' : Stream} {store xs ys store' : List A} where
    -- after a start with f, output t is input t - branches·step·(t mod branches), or f where there is no such byte
    pub delayed : {k : ℕ} → Fresh k f s store → Calls Interleaver s store xs ys s' store' → (t : ℕ) → t < length xs
        → (t < (sizes_of k).branches * (sizes_of k).step * (t % (sizes_of k).branches) → get_or ys t f ≡ f)
        × ((sizes_of k).branches * (sizes_of k).step * (t % (sizes_of k).branches) ≤ t
        → get_or ys t f ≡ get_or xs (t - (sizes_of k).branches * (sizes_of k).step * (t % (sizes_of k).branches)) f)
    delayed {k} fresh calls t h =
        by_delay f ((sizes_of k).branches * (sizes_of k).step * (t % (sizes_of k).branches)) xs t (condition3.delayed fresh calls t h)

    -- of DVB: input t - 204·(t mod 12)
    pub delayed_dvb : Fresh 1 f s store → Calls Interleaver s store xs ys s' store' → (t : ℕ) → t < length xs
        → (t < 204 * (t % 12) → get_or ys t f ≡ f) × (204 * (t % 12) ≤ t → get_or ys t f ≡ get_or xs (t - 204 * (t % 12)) f)
    unfolding sizes_of
    delayed_dvb fresh calls t h = delayed fresh calls t h

    -- of ATSC: input t - 208·(t mod 52)
    pub delayed_atsc : Fresh 2 f s store → Calls Interleaver s store xs ys s' store' → (t : ℕ) → t < length xs
        → (t < 208 * (t % 52) → get_or ys t f ≡ f) × (208 * (t % 52) ≤ t → get_or ys t f ≡ get_or xs (t - 208 * (t % 52)) f)
    unfolding sizes_of
    delayed_atsc fresh calls t h = delayed fresh calls t h

    -- of a deinterleaver, whatever it is fed: output t is input t - branches·step·(branches - 1 - t mod branches), or f
    pub delayed_back : {k : ℕ} → Fresh k f s store → Calls Deinterleaver s store xs ys s' store' → (t : ℕ) → t < length xs
        → (t < (sizes_of k).branches * (sizes_of k).step * ((sizes_of k).branches - 1 - t % (sizes_of k).branches) → get_or ys t f ≡ f)
        × ((sizes_of k).branches * (sizes_of k).step * ((sizes_of k).branches - 1 - t % (sizes_of k).branches) ≤ t
        → get_or ys t f ≡ get_or xs (t - (sizes_of k).branches * (sizes_of k).step * ((sizes_of k).branches - 1 - t % (sizes_of k).branches)) f)
    delayed_back {k} fresh calls t h =
        by_delay f ((sizes_of k).branches * (sizes_of k).step * ((sizes_of k).branches - 1 - t % (sizes_of k).branches)) xs t (condition3.delayed_back fresh calls t h)

    -- of DVB: input t - 204·(11 - t mod 12)
    pub delayed_back_dvb : Fresh 1 f s store → Calls Deinterleaver s store xs ys s' store' → (t : ℕ) → t < length xs
        → (t < 204 * (11 - t % 12) → get_or ys t f ≡ f) × (204 * (11 - t % 12) ≤ t → get_or ys t f ≡ get_or xs (t - 204 * (11 - t % 12)) f)
    unfolding sizes_of
    delayed_back_dvb fresh calls t h = delayed_back fresh calls t h

    -- of ATSC: input t - 208·(51 - t mod 52)
    pub delayed_back_atsc : Fresh 2 f s store → Calls Deinterleaver s store xs ys s' store' → (t : ℕ) → t < length xs
        → (t < 208 * (51 - t % 52) → get_or ys t f ≡ f) × (208 * (51 - t % 52) ≤ t → get_or ys t f ≡ get_or xs (t - 208 * (51 - t % 52)) f)
    unfolding sizes_of
    delayed_back_atsc fresh calls t h = delayed_back fresh calls t h

  module _ {f : A} {s s' d d' : Stream} {store store' store₁ store₂ xs ys zs : List A} where
    -- a fresh deinterleaver of the same kind, with its own store and its own cutting, gives the input again, branches·step·(branches - 1) bytes late
    -- behind f
    pub returned : {k : ℕ} → Fresh k f s store → Calls Interleaver s store xs ys s' store' → Fresh k f d store₁ → Calls Deinterleaver d store₁ ys zs d' store₂
        → zs ≡ take (length xs) (replicate ((sizes_of k).branches * (sizes_of k).step * ((sizes_of k).branches - 1)) f ++ xs)
    returned fresh calls again back = condition3.returned fresh calls again back

    -- of DVB: 2,244 bytes late
    pub returned_dvb : Fresh 1 f s store → Calls Interleaver s store xs ys s' store' → Fresh 1 f d store₁ → Calls Deinterleaver d store₁ ys zs d' store₂
        → zs ≡ take (length xs) (replicate 2244 f ++ xs)
    unfolding sizes_of
    returned_dvb fresh calls again back = returned fresh calls again back

    -- of ATSC: 10,608 bytes late
    pub returned_atsc : Fresh 2 f s store → Calls Interleaver s store xs ys s' store' → Fresh 2 f d store₁ → Calls Deinterleaver d store₁ ys zs d' store₂
        → zs ≡ take (length xs) (replicate 10608 f ++ xs)
    unfolding sizes_of
    returned_atsc fresh calls again back = returned fresh calls again back

  -- and a record and a store that calls hand on are accepted again: the next call is refused only where its lengths differ
  pub goes_on : {way : Way} {k : ℕ} {f : A} {s s' : Stream} {store xs ys store' : List A} → Fresh k f s store → Calls way s store xs ys s' store'
      → (input out : List A) → length out ≡ length input → says (call way s' store' input out) ≡ done (fed_record way s' input)
  goes_on {way} fresh calls input out e = readiness.goes_on (readiness.ready_after (readiness.ready_fresh fresh) calls) way input out e

  -- a place inside its range is taken as it stands, whether or not this store was ever there: from any record in its ranges, of 51 places as every
  -- record has, the bytes of a feed go by these slots, the first of them byte 0. What comes out, and the store after it ..
  pub taken_as_it_stands : (way : Way) (s : Stream) (store input : List A) → Ranges s → length s.places ≡ 51
      → (fed_output way s store input ≡ run_output (slot_from way s) suc 0 store input) × (fed_store way s store input ≡ run_store (slot_from way s) suc 0 store input)
  unfolding fed_output fed_store slot_at ring_at row_at
  taken_as_it_stands way s store input r l =
      let w = within way s (range_in s r) l in
      (output_number w store input, store_number w store input)

  -- .. and the record and the store that any calls hand on from there are accepted again
  pub goes_on_from : {way : Way} {s s' : Stream} {store xs ys store' : List A} → Known s.kind → length store ≡ (sizes_of s.kind).store → Ranges s
      → length s.places ≡ 51 → Calls way s store xs ys s' store'
      → (input out : List A) → length out ≡ length input → says (call way s' store' input out) ≡ done (fed_record way s' input)
  goes_on_from {way} {s} {store = store} k e r l calls input out q =
      let ready : Ready s store = record { kind = is_known s.kind k; full = e; range = range_in s r; long = l } in
      readiness.goes_on (readiness.ready_after ready calls) way input out q

  -- condition 1: a number is said exactly when its sentence holds and none before it does ..
  pub refusal_order_start : (k : ℕ) (store : List A) (n : ℕ) → (started_of k store ≡ refused n) ↔ FirstTrue (start_sentences k store) n
  refusal_order_start k store n = refusals.refusal_order_start k store n

  pub refusal_order_feed : (c : Call A) (n : ℕ) → (says c ≡ refused n) ↔ FirstTrue (feed_sentences c) n
  refusal_order_feed c n = refusals.refusal_order_feed c n

  -- .. and then the call says that number alone, and changes no byte of what it was lent; a start gives zeros throughout, a feed hands its record back
  -- as it came
  pub refused_alone_start : (k : ℕ) (store : List A) (f : A) (n : ℕ) → FirstTrue (start_sentences k store) n
      → (started_of k store ≡ refused n) × (started_record k store ≡ record { kind = 0; branch = 0; places = replicate 51 0 }) × (started_store k f store ≡ store)
  unfolding start_record start_stand
  refused_alone_start k store f n h = refusals.refused_alone_start k store f n h

  pub refused_alone_feed : (c : Call A) (n : ℕ) → FirstTrue (feed_sentences c) n
      → (says c ≡ refused n) × (record_after c ≡ c.stream) × (store_after c ≡ c.store) × (output_after c ≡ c.output)
  refused_alone_feed c n h = refusals.refused_alone_feed c n h

-- condition 2: store, fill and input changed alike by any function from any type to any other, start and feed do the same to the changed bytes
module _ {A B : Type 0} (g : A → B) where
  pub blind_start : (k : ℕ) (store : List A) (f : A)
      → (started_of k (map g store) ≡ started_of k store)
      × (started_record k (map g store) ≡ started_record k store)
      × (started_store k (g f) (map g store) ≡ map g (started_store k f store))
  blind_start k store f = blindness.start_blind g k store f

  pub blind_feed : (c : Call A)
      → (says (blindness.changed g c) ≡ says c)
      × (record_after (blindness.changed g c) ≡ record_after c)
      × (store_after (blindness.changed g c) ≡ map g (store_after c))
      × (output_after (blindness.changed g c) ≡ map g (output_after c))
  blind_feed c = blindness.feed_blind g c
