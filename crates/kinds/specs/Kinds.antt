-- The two byte machines: kind 1 is DVB, ETSI EN 300 744, 4.3.2, with 12 branches and steps of 17 bytes; kind 2 is ATSC A/53, with 52 branches and
-- steps of 4. The record of a machine, its ranges, and the record at a start. These are definitions, with the few facts on their numbers that a
-- machine needs.
use Rattle.std.specs.Prelude.{ℕ, zero, suc, ◌+◌, ◌-◌, ◌*◌, ◌≤◌, ◌<◌, Bool, true, false, cond, ◌&&◌, ◌||◌, List, ◌≡◌, refl, get_or, eqb, ltb}
use Rattle.std.proofs.Common.{arith, lit<, lit≤}
use Rattle.laws.specs.declared.Way.{Way}
use Rattle.delay.specs.Machine.{Machine, machine, Stand, offset, start_stand, comes_at}
use Rattle.kinds.specs.declared.Stream.{Stream}
use Rattle.kinds.specs.declared.sizes.Sizes.{Sizes}

-- kinds are 1 and 2
unfoldable pub known : ℕ → Bool
known k = eqb k 1 || eqb k 2

-- DVB: 12 branches, steps of 17 bytes, a store of 1,122. ATSC: 52 branches, steps of 4 bytes, a store of 5,304
unfoldable pub sizes_of : ℕ → Sizes
sizes_of k = cond (eqb k 1) (record { branches = 12; step = 17; store = 1122 }) (record { branches = 52; step = 4; store = 5304 })

-- what the numbers are good for: the store of either kind holds the rings, and no byte more
pub record Sound (z : Sizes) : Type 0 where
  pub some_branches : 0 < z.branches
  pub some_step : 0 < z.step
  pub few : z.branches ≤ 52
  pub short : z.step ≤ 17
  pub room : z.store ≡ offset z.step z.branches
  pub low : z.store ≤ 5304
  pub ring : (x : ℕ) → x < z.branches → z.step * x ≤ 204

pub sound : (k : ℕ) → Sound (sizes_of k)
unfolding sizes_of offset
sound k = go (eqb k 1)
  where
    go : (b : Bool) → Sound (cond b (record { branches = 12; step = 17; store = 1122 }) (record { branches = 52; step = 4; store = 5304 }))
    go true = record { some_branches = lit< tt; some_step = lit< tt; few = lit≤ tt; short = lit≤ tt; room = refl; low = lit≤ tt; ring = λ x h. omega arith }
    go false = record { some_branches = lit< tt; some_step = lit< tt; few = lit≤ tt; short = lit≤ tt; room = refl; low = lit≤ tt; ring = λ x h. omega arith }

-- z are the kind's numbers
pub record Sized (k : ℕ) (z : Sizes) : Type 0 where
  pub branches : z.branches ≡ (sizes_of k).branches
  pub step : z.step ≡ (sizes_of k).step
  pub store : z.store ≡ (sizes_of k).store
  pub some : 0 < z.branches
  pub few : z.branches ≤ 52
  pub short : z.step ≤ 17

pub sized : (k : ℕ) (z : Sizes) → z ≡ sizes_of k → Sized k z
sized k z e = rw e (record { branches = refl; step = refl; store = refl; some = (sound k).some_branches; few = (sound k).few; short = (sound k).short })

-- the machine of a kind, of either way
abbrev pub machine_of : Way → ℕ → Machine
machine_of way k = machine (sizes_of k).branches (sizes_of k).step (sound k).some_branches (sound k).some_step way

-- the record, as where a machine stands; and back
abbrev pub stand_of : Stream → Stand
stand_of s = record { branch = s.branch; places = s.places }

abbrev pub record_of : ℕ → Stand → Stream
record_of k R = record { kind = k; branch = R.branch; places = R.places }

-- start sets the branch and every place to 0
unfoldable pub start_record : ℕ → Stream
start_record k = record_of k (start_stand 51)

-- each of n places, from place i on, is below its limit, each limit step more than the one before
unfoldable pub below_from : List ℕ → ℕ → ℕ → ℕ → ℕ → Bool
below_from places i limit step zero = true
below_from places i limit step (suc n) = ltb (get_or places i 0) limit && below_from places (i + 1) (limit + step) step n

-- the branch is below the kind's; the place of ring x is below step·x; those that the kind lacks, of 51, are 0
unfoldable pub in_range : Stream → Bool
in_range s =
    let z = sizes_of s.kind in
    ltb s.branch z.branches && (below_from s.places 0 z.step z.step (z.branches - 1) && below_from s.places (z.branches - 1) 1 0 (51 - (z.branches - 1)))

-- channel byte a comes out of a started deinterleaver of kind k at this place
abbrev pub place_in : ℕ → ℕ → ℕ
place_in k a = comes_at (sizes_of k).branches (sizes_of k).step a
