-- How far a burst is spread, change requests 5 and 10, over the calls of the byte streams (Fresh, Calls: those of Stream.antt), for both kinds. A stream
-- holds many equal bytes, so a value does not say which byte came out. The machine is defined over bytes of any type, and cannot look at them. So it may
-- be fed pairs: byte a with the number a + 1, the fill with 0 (`numbered`, Numbered.antt of delay). `traced` is what comes out of it then. Without the
-- numbers that is what came out of the calls, and where the number a + 1 stands, there stands byte a itself. Each theorem is proved beside its subject.
use Rattle.std.specs.Prelude.{ℕ, suc, ◌+◌, ◌-◌, ◌*◌, ◌%◌, ◌≤◌, ◌<◌, ◌≢◌, List, map, ◌≡◌, refl, length, get_or}
use Rattle.std.proofs.Common.{arith, lit<}
use Rattle.laws.specs.declared.Way.TheVariants.{Deinterleaver}
use Rattle.delay.specs.Machine.{comes_at, spread_of}
use Rattle.delay.specs.Burst.{distance, Only}
use Rattle.delay.proofs.Burst as delays
use Rattle.delay.specs.Numbered.{numbered}
use Rattle.kinds.specs.declared.Stream.{Stream}
use Rattle.kinds.specs.Kinds.{sizes_of, sound, place_in}
use Rattle.streams.specs.Calls.{Fresh, Calls}
use Rattle.streams.specs.Burst.{traced}
use Rattle.streams.proofs.Burst as burst

-- the place of channel byte a: a + 204·(11 - a mod 12) of DVB, a + 208·(51 - a mod 52) of ATSC
pub places_are : (a : ℕ) → (place_in 1 a ≡ a + 204 * (11 - a % 12)) × (place_in 2 a ≡ a + 208 * (51 - a % 52))
unfolding comes_at sizes_of
places_are a = (refl, refl)

-- `traced` is what comes out of any calls on a started deinterleaver that are fed the pairs (`at_once` of Stream.antt: there are such calls)
pub traced_is : {A : Type 0} {k : ℕ} (f : A) (xs : List A) {s s' : Stream} {store zs store' : List (ℕ × A)}
    → Fresh k (0, f) s store → Calls Deinterleaver s store (numbered f xs) zs s' store' → zs ≡ traced k f xs
traced_is f xs fresh calls = burst.traced_is f xs fresh calls

module _ {A : Type 0} {f : A} {s s' : Stream} {store xs ys store' : List A} where
  -- at its place in the joined output stands the value of channel byte a, if more bytes than that were fed ..
  pub comes_out : {k : ℕ} → Fresh k f s store → Calls Deinterleaver s store xs ys s' store' → (a : ℕ) → place_in k a < length xs
      → get_or ys (place_in k a) f ≡ get_or xs a f
  comes_out fresh calls a l = burst.comes_out fresh calls a l

  -- .. and it is that byte: it stands there and nowhere else
  pub stands_alone : {k : ℕ} → Fresh k f s store → Calls Deinterleaver s store xs ys s' store' → (a : ℕ) → place_in k a < length xs
      → (ys ≡ map (λ p. p.1) (traced k f xs)) × Only (0, f) (traced k f xs) (place_in k a) (suc a, get_or xs a f)
  stands_alone fresh calls a l = burst.stands_alone fresh calls a l

  -- two different channel bytes fewer places apart than there are branches come out at least branches·step - 1 places apart, if enough bytes are fed for
  -- both to come out: each stands at its place and nowhere else, and the two places are so far apart
  pub burst_spread : {k : ℕ} → Fresh k f s store → Calls Deinterleaver s store xs ys s' store'
      → (a c : ℕ) → a ≢ c → distance a c < (sizes_of k).branches → place_in k a < length xs → place_in k c < length xs
      → (ys ≡ map (λ p. p.1) (traced k f xs))
      × Only (0, f) (traced k f xs) (place_in k a) (suc a, get_or xs a f)
      × Only (0, f) (traced k f xs) (place_in k c) (suc c, get_or xs c f)
      × ((sizes_of k).branches * (sizes_of k).step - 1 ≤ distance (place_in k a) (place_in k c))
  unfolding spread_of
  burst_spread fresh calls a c other near la lc = burst.burst_spread fresh calls a c other near la lc

  -- of DVB: less than 12 apart, at least 203
  pub burst_spread_dvb : Fresh 1 f s store → Calls Deinterleaver s store xs ys s' store'
      → (a c : ℕ) → a ≢ c → distance a c < 12 → a + 204 * (11 - a % 12) < length xs → c + 204 * (11 - c % 12) < length xs
      → (ys ≡ map (λ p. p.1) (traced 1 f xs))
      × Only (0, f) (traced 1 f xs) (a + 204 * (11 - a % 12)) (suc a, get_or xs a f)
      × Only (0, f) (traced 1 f xs) (c + 204 * (11 - c % 12)) (suc c, get_or xs c f)
      × (203 ≤ distance (a + 204 * (11 - a % 12)) (c + 204 * (11 - c % 12)))
  unfolding comes_at sizes_of
  burst_spread_dvb fresh calls a c other near la lc = burst_spread fresh calls a c other near la lc

  -- of ATSC: less than 52 apart, at least 207
  pub burst_spread_atsc : Fresh 2 f s store → Calls Deinterleaver s store xs ys s' store'
      → (a c : ℕ) → a ≢ c → distance a c < 52 → a + 208 * (51 - a % 52) < length xs → c + 208 * (51 - c % 52) < length xs
      → (ys ≡ map (λ p. p.1) (traced 2 f xs))
      × Only (0, f) (traced 2 f xs) (a + 208 * (51 - a % 52)) (suc a, get_or xs a f)
      × Only (0, f) (traced 2 f xs) (c + 208 * (51 - c % 52)) (suc c, get_or xs c f)
      × (207 ≤ distance (a + 208 * (51 - a % 52)) (c + 208 * (51 - c % 52)))
  unfolding comes_at sizes_of
  burst_spread_atsc fresh calls a c other near la lc = burst_spread fresh calls a c other near la lc

  -- and that is reached. Of DVB bytes 0 and 1 stand at places 2,244 and 2,041, if 2,245 bytes or more were fed ..
  pub burst_reached_dvb : Fresh 1 f s store → Calls Deinterleaver s store xs ys s' store' → 2244 < length xs
      → (ys ≡ map (λ p. p.1) (traced 1 f xs))
      × Only (0, f) (traced 1 f xs) 2244 (1, get_or xs 0 f)
      × Only (0, f) (traced 1 f xs) 2041 (2, get_or xs 1 f)
      × (distance 2244 2041 ≡ 203)
  unfolding comes_at spread_of sizes_of
  burst_reached_dvb fresh calls l = burst.burst_spread_reached fresh calls 0 (lit< tt) l (omega (arith, l))

  -- .. and of ATSC at 10,608 and 10,401, if 10,609 or more were
  pub burst_reached_atsc : Fresh 2 f s store → Calls Deinterleaver s store xs ys s' store' → 10608 < length xs
      → (ys ≡ map (λ p. p.1) (traced 2 f xs))
      × Only (0, f) (traced 2 f xs) 10608 (1, get_or xs 0 f)
      × Only (0, f) (traced 2 f xs) 10401 (2, get_or xs 1 f)
      × (distance 10608 10401 ≡ 207)
  unfolding comes_at spread_of sizes_of
  burst_reached_atsc fresh calls l = burst.burst_spread_reached fresh calls 0 (lit< tt) l (omega (arith, l))

-- bytes as many places apart as there are branches come out just as far apart
pub turn_later : (k a : ℕ) → place_in k (a + (sizes_of k).branches) ≡ place_in k a + (sizes_of k).branches
turn_later k a = delays.turn_later (sizes_of k).branches (sizes_of k).step (sound k).some_branches (sound k).some_step a
