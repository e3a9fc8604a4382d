-- A machine that is ready stays ready: the next call is refused only where its lengths differ. And where the record of a started machine stands
-- after so many bytes. Over bytes of any type.
use Rattle.std.specs.Prelude.{ℕ, ◌<◌, true, ◌≡◌, refl, List, [], length, get_or}
use Rattle.std.proofs.Common.{◌∙◌, append-nil}
use Rattle.std.proofs.Math.ListN.{length-replicate, get_or-replicate}
use borrow.Author.Tests.{eq-eqb, not-false}
use Rattle.laws.specs.Outcome.{done, done_clear}
use Rattle.laws.specs.declared.Way.{Way}
use Rattle.laws.specs.declared.Way.TheVariants.{Interleaver}
use Rattle.delay.specs.Machine.{slot_of, next_of, start_stand, run_output, run_store, run_record}
use Rattle.delay.specs.Cuts.{length_store}
use Rattle.delay.proofs.Started.{branch_since, place_since}
use Rattle.delay.specs.Standing.{Within}
use Rattle.delay.proofs.Standing.{stands_after, within_run, within_start}
use Rattle.kinds.specs.declared.Stream.{Stream}
use Rattle.kinds.specs.Kinds.{known, sizes_of, sound, machine_of, stand_of, in_range, start_record}
use Rattle.kinds.specs.Ranges.{ranges, range_in, within}
use Rattle.streams.specs.Fed.{start_store, fed_output, fed_store, fed_record}
use Rattle.streams.specs.Answers.{start_lines, Call, call, says, store_after, output_after}
use Rattle.streams.specs.Calls.{Fresh, Calls, none, fed}
use Rattle.streams.proofs.Condition3.{one_call, one_run, begun}
use Rattle.streams.specs.Ready.{Ready, Stood}

module _ {A : Type 0} where
  -- a start of a known kind, in a store of its length, is done
  pub served_start : (k : ℕ) (lent : List A) (f : A) → known k ≡ true → length lent ≡ (sizes_of k).store → Fresh k f (start_record k) (start_store k f)
  served_start k lent f e l =
      let q = eq-eqb (length lent) (sizes_of k).store l in
      record { lent = lent; said = rw (e, q); filled = rw (e, q) }

  -- and a feed of one, with a store of its length, branch and places in their ranges and an output as long as the input
  pub served_feed : (c : Call A) → known c.stream.kind ≡ true → length c.store ≡ (sizes_of c.stream.kind).store → in_range c.stream ≡ true
      → length c.output ≡ length c.input → says c ≡ done (fed_record c.way c.stream c.input)
  served_feed c k l r e =
      rw (k, eq-eqb (length c.store) (sizes_of c.stream.kind).store l, r, eq-eqb (length c.output) (length c.input) e)

  -- a started machine is ready ..
  pub ready_start : (k : ℕ) (f : A) → known k ≡ true → Ready (start_record k) (start_store k f)
  unfolding start_record start_store start_stand
  ready_start k f e =
      let w : Within (machine_of Interleaver k) (start_stand 51) = within_start 51 (sound k).few in
      record {
        kind = e;
        full = length-replicate (sizes_of k).store f;
        range = range_in (start_record k) (record { branch = (sound k).some_branches; places = w.places; lacks = λ j l n. get_or-replicate {A = ℕ} 51 j 0 0 l });
        long = refl;
      }

  pub kind_known : {k : ℕ} {f : A} {s : Stream} {store : List A} → Fresh k f s store → known k ≡ true
  kind_known {k} h =
      let clear = done_clear (λ n. n) (start_record k) (start_lines k h.lent) _ h.said in
      not-false (known k) clear.0.0

  pub ready_fresh : {k : ℕ} {f : A} {s : Stream} {store : List A} → Fresh k f s store → Ready s store
  ready_fresh {k} {f} h = let i = begun h in rw (i.0, i.1) (ready_start k f (kind_known h))

  -- .. and so is a machine that was, after any calls ..
  pub ready_after : {way : Way} {s s' : Stream} {store xs ys store' : List A} → Ready s store → Calls way s store xs ys s' store' → Ready s' store'
  unfolding fed_record fed_store
  ready_after {way} {s} {store = store} {xs = xs} r c =
      let M = machine_of way s.kind in
      let w = within way s r.range r.long in
      let a = stands_after w xs in
      let v = within_run xs (stand_of s) w in
      rw ((one_run c).next, (one_run c).stored) (record {
        kind = r.kind;
        full = length_store (slot_of M) (next_of M) xs (stand_of s) store ∙ r.full;
        range = range_in (fed_record way s xs) (record { branch = v.branch; places = v.places; lacks = λ j l n. a.others j n ∙ (ranges s r.range).lacks j l n });
        long = a.long ∙ r.long;
      })

  -- .. and the next call is refused only where its lengths differ
  pub goes_on : {s : Stream} {store : List A} → Ready s store → (way : Way) (input out : List A) → length out ≡ length input
      → says (call way s store input out) ≡ done (fed_record way s input)
  goes_on {s} {store} r way input out e = served_feed (call way s store input out) r.kind r.full r.range e

  -- a whole stream may be fed at once
  pub at_once : {s : Stream} {store : List A} → Ready s store → (way : Way) (xs : List A)
      → Calls way s store xs (fed_output way s store xs) (fed_record way s xs) (fed_store way s store xs)
  at_once {s} {store} r way xs =
      let c = call way s store xs xs in
      let e = goes_on r way xs xs refl in
      let o = one_call c refl refl refl e in
      rw (append-nil xs, append-nil (output_after c), o.output, o.stored) at (fed c refl refl refl e none)

  -- and a feed of nothing into nothing is done and moves nothing
  pub nothing_moves : {s : Stream} {store : List A} → Ready s store → (way : Way)
      → (says (call way s store [] []) ≡ done s) × (store_after (call way s store [] []) ≡ store) × (output_after (call way s store [] []) ≡ [])
  unfolding fed_output fed_store fed_record run_output run_store run_record
  nothing_moves {s} {store} r way =
      let b = eq-eqb (length store) (sizes_of s.kind).store r.full in
      (rw (r.kind, b, r.range), rw (r.kind, b, r.range), rw (r.kind, b, r.range))

start_long : length (start_stand 51).places ≡ 51
unfolding start_stand
start_long = refl

start_zero : (j : ℕ) → j < 51 → get_or (start_stand 51).places j 0 ≡ 0
unfolding start_stand
start_zero j l = get_or-replicate {A = ℕ} 51 j 0 0 l

pub stood : {A : Type 0} {k : ℕ} {f : A} {way : Way} {s s' : Stream} {store xs ys store' : List A} → Fresh k f s store → Calls way s store xs ys s' store'
    → Stood way k (length xs) s'
unfolding start_record fed_record
stood {k = k} {way = way} {xs = xs} h c =
    let a = stands_after {M = machine_of way k} (within_start 51 (sound k).few) xs in
    rw ((one_run c).next, (begun h).0) (record {
      kind = refl;
      branch = branch_since 51 a;
      long = a.long ∙ start_long;
      places = λ x p l. place_since 51 a x p l (sound k).few;
      lacks = λ j l n. a.others j n ∙ start_zero j l;
    })
