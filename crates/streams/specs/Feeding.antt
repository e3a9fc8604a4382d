-- A feed's set-up and its loop over the rings, from a record in its ranges.
use Rattle.std.specs.Prelude.{ℕ, ◌+◌, ◌-◌, ◌*◌, ◌/◌, ◌%◌, ◌≤◌, ◌<◌, ◌≡◌, length, get_or, set}
use Rattle.std.proofs.Math.Path.{sym, ap₂}
use Rattle.std.proofs.Common.{ap, ◌∙◌, mul-one, mul-suc, add-one, arith}
use mathlib.Core.List.{List}
use Rattle.std.proofs.Math.Nat.{add-mod-mod}
use Rattle.laws.specs.declared.Way.{Way}
use Rattle.delay.specs.Machine.{place_of, next_of, run_record}
use Rattle.delay.specs.Slots.{offset_end}
use Rattle.delay.specs.Standing.{Within}
use Rattle.delay.proofs.Standing.{stands_after}
use Rattle.delay.specs.Lane.{Leads, Ring, Left, count_of, Turned, Passed}
use Rattle.delay.specs.Loops.{left_all}
use Rattle.delay.proofs.Served.{Served, served_none, row_now, served_more, served_all}
use Rattle.kinds.specs.declared.Stream.{Stream}
use Rattle.kinds.specs.declared.sizes.Sizes.{Sizes}
use Rattle.kinds.specs.Kinds.{sizes_of, sound, Sized, machine_of, stand_of}
use Rattle.streams.specs.Fed.{fed_record, fed_store, fed_output, Runs}

-- the rings below x are done: z are the kind's numbers, and first is where ring x begins, which has size places
pub record Serving (way : Way) (s : Stream) (z : Sizes) (store₀ input store out places : List ℕ) (first size x : ℕ) : Type 0 where
  pub within : Within (machine_of way s.kind) (stand_of s)
  pub sized : Sized s.kind z
  pub ring : size ≡ (sizes_of s.kind).step * x
  pub served : Served (machine_of way s.kind) (stand_of s) store₀ input store out places first x

-- ring 0 is done
pub serving_first : {way : Way} {s : Stream} {z : Sizes} {store₀ input out out' : List ℕ} {k : ℕ} → Within (machine_of way s.kind) (stand_of s) → Sized s.kind z
    → length store₀ ≡ (sizes_of s.kind).store → length out ≡ length input → Leads (machine_of way s.kind) (stand_of s) 0 k → Passed z.branches k input out out'
    → Serving way s z store₀ input store₀ out' s.places 0 z.step 1
serving_first {way} {s} {z} {store₀} w e es eo l p =
    let n = sound s.kind in
    record {
      within = w;
      sized = e;
      ring = e.step ∙ sym (mul-one (sizes_of s.kind).step);
      served = served_none (es ∙ n.room) eo ((rw e.branches at p).lane way (sizes_of s.kind).step n.some_branches n.some_step (stand_of s) store₀ l);
    }

module _ {way : Way} {s : Stream} {z : Sizes} {store₀ input store out places : List ℕ} {first size x : ℕ} (g : Serving way s z store₀ input store out places first size x) where
  pub first_low : first ≤ 5304
  first_low = omega (arith, g.served.low, (sound s.kind).room, (sound s.kind).low)

  module _ (h : x < z.branches) where
    pub ring_here : x < (sizes_of s.kind).branches
    ring_here = omega (arith, g.sized.branches)

    pub ring_short : size ≤ 204
    ring_short = rw g.ring ((sound s.kind).ring x ring_here)

    -- its place is still the record's
    pub slot_kept : get_or places (x - 1) 0 ≡ place_of (stand_of s) x
    slot_kept = g.served.still (x - 1) (omega (arith, g.served.some))

    -- its slot, and all of it, lie in the store
    pub slot_short : {n : ℕ} → n ≡ place_of (stand_of s) x → n < size
    slot_short e = rw (e, g.ring) (g.within.places x g.served.some ring_here)

    pub ring_fits : first + size ≤ length store
    ring_fits =
        let r = g.served in
        rw g.ring (omega (arith, r.begins, offset_end (sizes_of s.kind).step x (sizes_of s.kind).branches ring_here, r.rings.long))

    -- it has as many bytes as the turns and the rest tell ..
    pub ring_count : {k n : ℕ} → Leads (machine_of way s.kind) (stand_of s) x k → n ≡ count_of (length input / z.branches) (length input % z.branches) k
        → Left z.branches (length input - k) n
    ring_count {k} l e = rw e (left_all z.branches (length input) k (omega (arith, l.few, g.sized.branches)))

    -- .. and is done next
    pub serving_next : {store' out' : List ℕ} {k n next : ℕ} → Leads (machine_of way s.kind) (stand_of s) x k → n ≡ place_of (stand_of s) x
        → Turned z.branches first (first + size) k (first + n) store input out store' out' next
        → Serving way s z store₀ input store' out' (set places (x - 1) (next - first)) (first + size) (size + z.step) (x + 1)
    serving_next {store'} {out'} {k} {n = slot} {next} l e t =
        let n = sound s.kind in
        let r = g.served in
        let ring : Ring (machine_of way s.kind) x first (first + size) = record { some = r.some; few = ring_here; begins = r.begins; ends = rw g.ring } in
        let did = (rw g.sized.branches at t).lane way (sizes_of s.kind).step n.some_branches n.some_step (stand_of s) x ring r.rings.long l (ap (λ (m : ℕ). first + m) e ∙ row_now g.within r l) in
        record {
          within = g.within;
          sized = g.sized;
          ring = rw (g.ring, g.sized.step, add-one x, mul-suc (sizes_of s.kind).step x);
          served = rw g.ring (served_more g.within r ring_here did.0 did.1);
        }

  -- all rings: the bytes one after the other
  pub serving_all : {j : ℕ} → z.branches ≤ x → j ≡ (s.branch + length input % z.branches) % (sizes_of s.kind).branches
      → Runs way s store₀ input (record { kind = s.kind; branch = j; places = places }) store out
  unfolding fed_record fed_store fed_output
  serving_all {j} h e =
      let all = served_all g.within g.served (omega (arith, g.sized.branches)) in
      let b : j ≡ (run_record (next_of (machine_of way s.kind)) (stand_of s) input).branch =
      (rw g.sized.branches at e) ∙ add-mod-mod s.branch (length input) (sizes_of s.kind).branches ∙ sym (stands_after g.within input).branch in
      record {
        next = ap₂ (λ (n : ℕ) (ps : List ℕ). record { kind = s.kind; branch = n; places = ps }) b all.0;
        stored = all.1;
        written = all.2;
      }
