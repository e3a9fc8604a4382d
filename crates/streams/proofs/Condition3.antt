-- Condition 3, for both kinds at once: calls cut anywhere are one run; what comes out of a started machine, and of the two one behind the other.
-- Over bytes of any type, and with no bound on how many.
use Rattle.std.specs.Prelude.{ℕ, suc, ◌-◌, ◌*◌, ◌%◌, ◌<◌, ◌≡◌, List, ◌++◌, get_or, replicate, take}
use Rattle.std.proofs.Math.Path.{refl, ap}
use Rattle.std.proofs.Common.{sym, ◌∙◌, zero-add}
use Rattle.std.proofs.Math.ListN.{length}
use Rattle.laws.specs.Lent.{Lent, left_of, left_alone}
use Rattle.laws.specs.Outcome.{done, refused, done_clear, answer_keeps, buffer_new}
use Rattle.laws.specs.declared.Way.{Way}
use Rattle.laws.specs.declared.Way.TheVariants.{Interleaver, Deinterleaver}
use Rattle.delay.specs.Machine.{ring_of, offset, slot_of, next_of, start_stand, run_output, run_store, run_record, late}
use Rattle.delay.specs.Cuts.{output_cut, store_cut, record_cut, length_output}
use Rattle.delay.specs.Bytes.{ring_at, slot_at, delay_at}
use Rattle.delay.proofs.Standing.{output_number, within_start}
use Rattle.delay.specs.Delay.{fresh}
use Rattle.delay.proofs.Round.{round, late_list}
use Rattle.kinds.specs.declared.Stream.{Stream}
use Rattle.kinds.specs.Kinds.{sizes_of, sound, machine_of, stand_of, start_record}
use Rattle.streams.specs.Fed.{start_store, fed_output, fed_store, fed_record}
use Rattle.streams.specs.Answers.{start_lines, started_of, started_store, Call, lines_of, says, store_after, output_after}
use Rattle.streams.specs.Calls.{Fresh, Calls, none, fed, stopped, unstarted}
use Rattle.streams.specs.Condition3.{OneRun}

module _ {A : Type 0} where
  -- an accepted call is one
  pub one_call : (c : Call A) {way : Way} {s r : Stream} {store : List A} → c.way ≡ way → c.stream ≡ s → c.store ≡ store → says c ≡ done r
      → OneRun way s store c.input (output_after c) r (store_after c)
  one_call c ew es et e =
      let clear = done_clear (λ k. k) (fed_record c.way c.stream c.input) (lines_of c) _ e in
      record {
        output = cc (buffer_new (lines_of c) (fed_output c.way c.stream c.store c.input) c.output clear.0);
        next = cc clear.1;
        stored = cc (buffer_new (lines_of c) (fed_store c.way c.stream c.store c.input) c.store clear.0);
      }

  -- a refused feed leaves the machine's store as it was ..
  feed_kept : {store : List A} (c : Call A) {k : ℕ} → says c ≡ refused k → (l : Lent store c.store) → (m : Lent (left_of l (store_after c)) c.output)
      → left_of m (output_after c) ≡ store
  feed_kept c {k} e l m =
      left_alone m (answer_keeps (λ n. n) (fed_record c.way c.stream c.input) (lines_of c) e _ c.output)
      ∙ left_alone l (answer_keeps (λ n. n) (fed_record c.way c.stream c.input) (lines_of c) e _ c.store)

  -- .. and a refused start
  start_kept : {store lent : List A} {k : ℕ} (j : ℕ) (f : A) → started_of j lent ≡ refused k → (l : Lent store lent) → left_of l (started_store j f lent) ≡ store
  start_kept {lent = lent} j f e l = left_alone l (answer_keeps (λ n. n) (start_record j) (start_lines j lent) e (start_store j f) lent)

  -- two runs, the second from where the first ended
  joined : {way : Way} {s r s' : Stream} {store store₁ store' xs ys us vs : List A}
      → OneRun way s store xs ys r store₁ → OneRun way r store₁ us vs s' store' → OneRun way s store (xs ++ us) (ys ++ vs) s' store'
  unfolding fed_output fed_store fed_record
  joined {way} {s} {store = store} {xs = xs} {us = us} a b =
      let M = machine_of way s.kind in
      record {
        output = rw (a.output, b.output, a.next, a.stored) (sym (output_cut (slot_of M) (next_of M) xs us (stand_of s) store));
        next = rw (b.next, a.next, record_cut (slot_of M) (next_of M) xs us (stand_of s));
        stored = rw (b.stored, a.next, a.stored) (sym (store_cut (slot_of M) (next_of M) xs us (stand_of s) store));
      }

  -- however the input was cut, and whatever was refused between: one run over the joined input
  pub one_run : {way : Way} {s s' : Stream} {store xs ys store' : List A} → Calls way s store xs ys s' store' → OneRun way s store xs ys s' store'
  unfolding fed_output fed_store fed_record run_output run_store run_record
  one_run none = record { output = refl; next = refl; stored = refl }
  one_run (fed c ew es et e cs) = joined (one_call c ew es et e) (one_run cs)
  one_run (stopped c e l m cs) = rw (feed_kept c e l m) at (one_run cs)
  one_run (unstarted j f e l cs) = rw (start_kept j f e l) at (one_run cs)

  -- what comes out is as long as what went in
  pub as_long : {way : Way} {s s' : Stream} {store xs ys store' : List A} → Calls way s store xs ys s' store' → length ys ≡ length xs
  unfolding fed_output
  as_long {way} {s} {store = store} {xs = xs} c =
      let M = machine_of way s.kind in ap length (one_run c).output ∙ length_output (slot_of M) (next_of M) xs (stand_of s) store

-- ---- from a start: k is the kind, b its branches, and n bytes its step

module _ {A : Type 0} {k : ℕ} {f : A} where
  -- a start that is not refused gives its record, and a store full of f
  pub begun : {s : Stream} {store : List A} → Fresh k f s store → (s ≡ start_record k) × (store ≡ start_store k f)
  begun h =
      let clear = done_clear (λ n. n) (start_record k) (start_lines k h.lent) _ h.said in
      (sym clear.1, h.filled ∙ buffer_new (start_lines k h.lent) (start_store k f) h.lent clear.0)

  module _ {way : Way} {s s' : Stream} {store xs ys store' : List A} (h : Fresh k f s store) (c : Calls way s store xs ys s' store') where
    -- its calls are the machine byte by number
    pub counted : ys ≡ run_output (slot_at (machine_of way k) (start_stand 51)) suc 0 (replicate (offset (sizes_of k).step (sizes_of k).branches) f) xs
    unfolding start_record start_store fed_output
    counted =
        let i = begun h in
        (one_run c).output
        ∙ rw (i.0, i.1, (sound k).room) (output_number (within_start 51 (sound k).few) (replicate (offset (sizes_of k).step (sizes_of k).branches) f) xs)

    -- output t is input t - b·n·x, or f where there is no such byte, x being the ring of branch t mod b
    delayed_either : (t : ℕ) → t < length xs
        → get_or ys t f ≡ late f ((sizes_of k).branches * (sizes_of k).step * ring_of way (sizes_of k).branches (t % (sizes_of k).branches)) (λ n. get_or xs n f) t
    unfolding delay_at ring_at start_stand
    delayed_either t l = rw counted (rw (zero-add t) at (fresh (machine_of way k) (start_stand 51) f xs t l))

  -- of an interleaver x is t mod b ..
  pub delayed : {s s' : Stream} {store xs ys store' : List A} → Fresh k f s store → Calls Interleaver s store xs ys s' store'
      → (t : ℕ) → t < length xs → get_or ys t f ≡ late f ((sizes_of k).branches * (sizes_of k).step * (t % (sizes_of k).branches)) (λ n. get_or xs n f) t
  delayed h c = delayed_either h c

  -- .. and of a deinterleaver b - 1 - t mod b
  pub delayed_back : {s s' : Stream} {store xs ys store' : List A} → Fresh k f s store → Calls Deinterleaver s store xs ys s' store'
      → (t : ℕ) → t < length xs
      → get_or ys t f ≡ late f ((sizes_of k).branches * (sizes_of k).step * ((sizes_of k).branches - 1 - t % (sizes_of k).branches)) (λ n. get_or xs n f) t
  delayed_back h c = delayed_either h c

  -- a fresh deinterleaver, with its own store and its own cutting, gives the input again, b·n·(b - 1) late behind f
  pub returned : {s s' d d' : Stream} {store store' store₁ store₂ xs ys zs : List A}
      → Fresh k f s store → Calls Interleaver s store xs ys s' store' → Fresh k f d store₁ → Calls Deinterleaver d store₁ ys zs d' store₂
      → zs ≡ take (length xs) (replicate ((sizes_of k).branches * (sizes_of k).step * ((sizes_of k).branches - 1)) f ++ xs)
  returned {xs = xs} {zs = zs} h c g e =
      let z = sound k in
      late_list f ((sizes_of k).branches * (sizes_of k).step * ((sizes_of k).branches - 1)) xs zs (as_long e ∙ as_long c)
      (λ t l. rw (counted g e, counted h c) (round (sizes_of k).branches (sizes_of k).step z.some_branches z.some_step (start_stand 51) f xs t l))
