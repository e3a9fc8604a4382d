-- A vessel of a store of the form: where its entry and its share lie, that its machine is ready, and what turning it leaves.
use Rattle.std.specs.Prelude.{ℕ, ◌+◌, ◌*◌, ◌<◌, ◌≡◌, take, drop}
use mathlib.Core.List.{List, ◌++◌}
use Rattle.std.proofs.Math.Path.{refl, ap, ap₂}
use Rattle.std.proofs.Common.{◌∙◌}
use Rattle.std.proofs.Math.ListN.{length}
use Rattle.std.proofs.Math.Seq.{sets}
use Rattle.laws.specs.declared.Way.{Way}
use Rattle.laws.specs.Outcome.{done, refused, clear, stopped, first, done_clear, buffer_new}
use Rattle.laws.specs.Parts.{part, length_part, part_back}
use Rattle.laws.specs.Run.{length_run}
use Rattle.big_end.specs.Numbers.{number_at}
use Rattle.kinds.specs.declared.Stream.{Stream}
use Rattle.delay.specs.Cuts.{length_store}
use Rattle.delay.specs.Machine.{slot_of, next_of}
use Rattle.kinds.specs.Kinds.{machine_of, stand_of}
use Rattle.kinds.specs.Ranges.{is_known, range_in}
use Rattle.streams.specs.Fed.{fed_store, fed_record}
use Rattle.streams.specs.Answers.{Call, call, lines_of}
use Rattle.streams.specs.Answers as machines
use Rattle.streams.proofs.Condition3.{one_call}
use Rattle.streams.specs.Ready.{Ready}
use Rattle.streams.proofs.Ready.{goes_on}
use Rattle.gateway_form.specs.Form.{kind_of, places_of, stand_bytes, machines_in, entry_place, entry_in, offset_in, length_in, share_in}
use Rattle.gateway_form.specs.Gateways.{Gateway, entry_inside, share_inside}
use Rattle.gateway.specs.Answers.{Feed, feed, feed_lines, way_in, record_in, turned, passed, says, store_after, output_after}

pub places_long : (e : List ℕ) → length (places_of e) ≡ 51
unfolding places_of
places_long e = length_run (λ x. number_at e (20 + 4 * x)) 0 51

pub entry_long : {f : List ℕ} → Gateway f → (v : ℕ) → v < machines_in f → length (entry_in f v) ≡ 224
unfolding entry_in
entry_long {f} z v h = length_part (entry_place v) 224 f (entry_inside z v h)

pub share_long : {f : List ℕ} → Gateway f → (v : ℕ) → v < machines_in f → length (share_in f v) ≡ length_in f v
unfolding share_in
share_long {f} z v h = length_part (offset_in f v) (length_in f v) f (share_inside z v h)

pub the_entry : (f : List ℕ) (v : ℕ) → part (entry_place v) 224 f ≡ entry_in f v
unfolding entry_in
the_entry f v = refl

pub the_share : (f : List ℕ) (v : ℕ) → part (offset_in f v) (length_in f v) f ≡ share_in f v
unfolding share_in
the_share f v = refl

-- its machine is ready for a feed
pub vessel_ready : {f : List ℕ} → Gateway f → (v : ℕ) → v < machines_in f → Ready (record_in f v) (share_in f v)
vessel_ready {f} z v h =
    let e = z.entries v h in
    record {
      kind = is_known (kind_of (entry_in f v)) e.kind;
      full = share_long z v h ∙ e.long;
      range = range_in (record_in f v) e.within;
      long = places_long (entry_in f v);
    }

-- what the code's calls leave is what the definitions say
module _ (f : List ℕ) (v : ℕ) (input out : List ℕ) (z : Gateway f) (h : v < machines_in f) (l : length out ≡ length input) where
  abbrev machine : Call ℕ
  machine = call (way_in f v) (record_in f v) (share_in f v) input out

  runs : machines.says machine ≡ done (fed_record (way_in f v) (record_in f v) input)
  runs = goes_on (vessel_ready z v h) (way_in f v) input out l

  next : machines.record_after machine ≡ fed_record (way_in f v) (record_in f v) input
  next =
      buffer_new (lines_of machine) (fed_record (way_in f v) (record_in f v) input) (record_in f v)
      (done_clear (λ k. k) (fed_record (way_in f v) (record_in f v) input) (lines_of machine) _ runs).0

  pub share_fed : length (fed_store (way_in f v) (record_in f v) (share_in f v) input) ≡ length_in f v
  unfolding fed_store
  share_fed =
      let M = machine_of (way_in f v) (record_in f v).kind in
      length_store (slot_of M) (next_of M) input (stand_of (record_in f v)) (share_in f v) ∙ share_long z v h

  turn_leaves : {share' out' store' : List ℕ} {s : Stream} → s ≡ machines.record_after machine → share' ≡ machines.store_after machine → out' ≡ machines.output_after machine
      → store' ≡ sets (take (offset_in f v) f ++ (share' ++ drop (length_in f v) (drop (offset_in f v) f))) (entry_place v + 16) (stand_bytes s)
      → (store' ≡ turned (feed f v input out)) × (out' ≡ passed (feed f v input out))
  unfolding turned passed
  turn_leaves {share'} p q r w =
      let run = one_call machine refl refl refl runs in
      let new = q ∙ run.stored in (
        w ∙ ap₂ (λ (g : List ℕ) (s : Stream). sets g (entry_place v + 16) (stand_bytes s))
            (part_back f (offset_in f v) (length_in f v) share' (ap length new ∙ share_fed) (share_inside z v h) ∙ ap (sets f (offset_in f v)) new) (p ∙ next),
        r ∙ run.output,
      )

  -- the machine by what was read of its entry
  module _ {way : Way} {s : Stream} {from n : ℕ} (a : way ≡ way_in f v) (b : s ≡ record_in f v) (c : from ≡ offset_in f v) (d : n ≡ length_in f v) where
    same_call : call way s (part from n f) input out ≡ machine
    same_call = rw (a, b, c, d) (ap (λ (l : List ℕ). call (way_in f v) (record_in f v) l input out) (the_share f v))

    pub turn_told : {share' out' store' : List ℕ} {r : Stream} → r ≡ machines.record_after (call way s (part from n f) input out)
        → share' ≡ machines.store_after (call way s (part from n f) input out) → out' ≡ machines.output_after (call way s (part from n f) input out)
        → store' ≡ sets (take from f ++ (share' ++ drop n (drop from f))) (entry_place v + 16) (stand_bytes r)
        → (store' ≡ turned (feed f v input out)) × (out' ≡ passed (feed f v input out))
    turn_told {share'} {r = r} p q e w =
        turn_leaves (p ∙ ap machines.record_after same_call) (q ∙ ap machines.store_after same_call) (e ∙ ap machines.output_after same_call)
        (w ∙ ap₂ (λ (o k : ℕ). sets (take o f ++ (share' ++ drop k (drop o f))) (entry_place v + 16) (stand_bytes r)) c d)

-- ---- a feed's answer, by the first line that applies

module _ (c : Feed) where
  pub feed_stopped : {n : ℕ} → first (feed_lines c) ≡ stopped n → (refused n ≡ says c) × ((c.store ≡ store_after c) × (c.output ≡ output_after c))
  feed_stopped q = (rw q, (rw q, rw q))

  pub feed_done : {store' out' : List ℕ} → first (feed_lines c) ≡ clear → store' ≡ turned c → out' ≡ passed c
      → (done tt ≡ says c) × ((store' ≡ store_after c) × (out' ≡ output_after c))
  feed_done q e w = (rw q, (rw q e, rw q w))
