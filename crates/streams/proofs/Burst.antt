-- How far a burst in the channel is spread: where its bytes come out of a started deinterleaver, whatever the calls, and how far apart. For both kinds
-- at once, and over bytes of any type.
use Rattle.std.specs.Prelude.{ℕ, ◌+◌, ◌%◌, ◌≤◌, ◌<◌, ◌≡◌, refl, ◌≢◌, List, map, length, get_or, replicate}
use Rattle.std.proofs.Common.{◌∙◌}
use Rattle.std.proofs.lemmas.List.{length-replicate}
use Rattle.laws.specs.declared.Way.TheVariants.{Deinterleaver}
use Rattle.delay.specs.Machine.{start_stand, slot_of, next_of, spread_of}
use Rattle.delay.specs.Burst.{distance, Only}
use Rattle.delay.proofs.Burst as burst
use Rattle.delay.specs.Numbered.{pair, numbered, byte_of}
use Rattle.delay.proofs.Numbered as numbers
use Rattle.kinds.specs.declared.Stream.{Stream}
use Rattle.kinds.specs.Kinds.{sizes_of, sound, machine_of, start_record, place_in}
use Rattle.streams.specs.Fed.{start_store, fed_output}
use Rattle.streams.specs.Calls.{Fresh, Calls}
use Rattle.streams.proofs.Condition3.{one_run, begun, counted}
use Rattle.streams.proofs.Ready.{served_start, kind_known, ready_start, at_once}
use Rattle.streams.specs.Burst.{traced}

-- any calls on a started deinterleaver that are fed these give that
pub traced_is : {A : Type 0} {k : ℕ} (f : A) (xs : List A) {s s' : Stream} {store zs store' : List (ℕ × A)}
    → Fresh k (0, f) s store → Calls Deinterleaver s store (numbered f xs) zs s' store' → zs ≡ traced k f xs
unfolding traced
traced_is f xs h calls = let b = begun h in (one_run calls).output ∙ rw (b.0, b.1)

at_first : (start_stand 51).branch ≡ 0
unfolding start_stand
at_first = refl

module _ {A : Type 0} {k : ℕ} {f : A} {s s' : Stream} {store xs ys store' : List A} (h : Fresh k f s store) (calls : Calls Deinterleaver s store xs ys s' store') where
  -- a machine of this kind may be started with pairs, too
  with_numbers : Fresh {A = ℕ × A} k (0, f) (start_record k) (start_store k (0, f))
  with_numbers = served_start k (replicate (sizes_of k).store (0, f)) (0, f) (kind_known h) (length-replicate (sizes_of k).store (0, f))

  -- in what comes out of it byte a stands at its place and nowhere else
  alone : (a : ℕ) → place_in k a < length xs → Only (0, f) (traced k f xs) (place_in k a) (pair f xs a)
  unfolding traced
  alone a l =
      let z = sound k in
      rw (counted with_numbers (at_once (ready_start k (0, f) (kind_known h)) Deinterleaver (numbered f xs)))
      (numbers.stands_alone f (sizes_of k).branches (sizes_of k).step z.some_branches z.some_step (start_stand 51) at_first xs a l)

  -- of any calls: at byte a's place stands its value, if more bytes than that were fed
  pub comes_out : (a : ℕ) → place_in k a < length xs → get_or ys (place_in k a) f ≡ get_or xs a f
  comes_out a l =
      let z = sound k in
      rw (counted h calls) (burst.comes_out (sizes_of k).branches (sizes_of k).step z.some_branches z.some_step (start_stand 51) at_first f xs a l)

  -- what comes out is what comes out of the numbered bytes, without their numbers
  bytes : ys ≡ map (byte_of f) (traced k f xs)
  unfolding traced fed_output start_record start_store
  bytes =
      let b = begun h in
      let M = machine_of Deinterleaver k in
      (one_run calls).output ∙ rw (b.0, b.1) (numbers.bytes_same f (slot_of M) (next_of M) (start_stand 51) (sizes_of k).store xs)

  -- and there byte a itself stands at its place, and nowhere else
  pub stands_alone : (a : ℕ) → place_in k a < length xs → (ys ≡ map (byte_of f) (traced k f xs)) × Only (0, f) (traced k f xs) (place_in k a) (pair f xs a)
  stands_alone a l = (bytes, alone a l)

  -- two different bytes fewer places apart than there are branches stand so far apart at least ..
  pub burst_spread : (a c : ℕ) → a ≢ c → distance a c < (sizes_of k).branches → place_in k a < length xs → place_in k c < length xs
      → (ys ≡ map (byte_of f) (traced k f xs))
      × Only (0, f) (traced k f xs) (place_in k a) (pair f xs a)
      × Only (0, f) (traced k f xs) (place_in k c) (pair f xs c)
      × (spread_of (sizes_of k).branches (sizes_of k).step ≤ distance (place_in k a) (place_in k c))
  burst_spread a c other near la lc =
      let z = sound k in
      (bytes, alone a la, alone c lc, burst.spread (sizes_of k).branches (sizes_of k).step z.some_branches z.some_step a c other near)

  -- .. and each two neighbours of one turn just so far
  pub burst_spread_reached : (a : ℕ) → a % (sizes_of k).branches + 1 < (sizes_of k).branches → place_in k a < length xs → place_in k (a + 1) < length xs
      → (ys ≡ map (byte_of f) (traced k f xs))
      × Only (0, f) (traced k f xs) (place_in k a) (pair f xs a)
      × Only (0, f) (traced k f xs) (place_in k (a + 1)) (pair f xs (a + 1))
      × (distance (place_in k a) (place_in k (a + 1)) ≡ spread_of (sizes_of k).branches (sizes_of k).step)
  burst_spread_reached a turn l₀ l₁ =
      let z = sound k in
      (bytes, alone a l₀, alone (a + 1) l₁, burst.reached (sizes_of k).branches (sizes_of k).step z.some_branches z.some_step a turn)
