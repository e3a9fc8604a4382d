-- The tests of a kind and of a record, and what they say: the kind is 1 or 2; the branch and each place lie in their ranges.
use Prim.Native.Nat.{ℕ, zero, suc, ◌+◌, ◌-◌, ◌*◌, ◌≤◌, ◌<◌}
use Rattle.std.specs.Prelude.{Bool, true, ◌&&◌, ◌⊎◌, ◌≡◌, List, length, ltb}
use Rattle.std.proofs.Math.Path.{refl}
use Rattle.std.proofs.Common.{ap, ◌∙◌, add-zero, lt-ltb, ltb-true}
use Rattle.std.proofs.Math.Nat.{mul-suc}
use native.Mathlib.Omega.{arith}
use Rattle.std.proofs.Math.ListN.{get_or}
use Rattle.laws.specs.Members.{both, either_is, is_either}
use Rattle.laws.specs.declared.Way.{Way}
use Rattle.delay.specs.Standing.{Within}
use Rattle.kinds.specs.declared.Stream.{Stream}
use Rattle.kinds.specs.declared.sizes.Sizes.{Sizes}
use Rattle.kinds.specs.Kinds.{known, sizes_of, sound, Sized, machine_of, stand_of, below_from, in_range}

-- kinds are 1 and 2
abbrev pub Known : ℕ → Type 0
Known k = (k ≡ 1) ⊎ (k ≡ 2)

pub known_is : (k : ℕ) → known k ≡ true → Known k
unfolding known
known_is k e = either_is 1 2 k e

pub is_known : (k : ℕ) → Known k → known k ≡ true
unfolding known
is_known k e = is_either 1 2 k e

module _ (places : List ℕ) (step : ℕ) where
  below_at : (n i limit : ℕ) → below_from places i limit step n ≡ true → (j : ℕ) → j < n → get_or places (i + j) 0 < limit + step * j
  unfolding below_from
  below_at zero i limit e j h = absurd (omega arith)
  below_at (suc n) i limit e j h =
      let p = both (ltb (get_or places i 0) limit) (below_from places (i + 1) (limit + step) step n) e in
      go j h (ltb-true (get_or places i 0) limit p.0) (below_at n (i + 1) (limit + step) p.1)
    where
      go : (j : ℕ) → j < suc n → get_or places i 0 < limit → ((k : ℕ) → k < n → get_or places (i + 1 + k) 0 < limit + step + step * k) → get_or places (i + j) 0 < limit + step * j
      go zero h here on = rw (add-zero i) (omega arith)
      go (suc k) h here on =
          let e : i + suc k ≡ i + 1 + k = omega arith in
          rw e (omega (arith, on k (omega arith), mul-suc step k))

  below_all : (n i limit : ℕ) → ((j : ℕ) → j < n → get_or places (i + j) 0 < limit + step * j) → below_from places i limit step n ≡ true
  unfolding below_from
  below_all zero i limit h = refl
  below_all (suc n) i limit h =
      let here : get_or places i 0 < limit = omega (arith, rw (add-zero i) at (h 0 (omega arith))) in
      rw (lt-ltb (get_or places i 0) limit here) (below_all n (i + 1) (limit + step) (λ j l.
      let e : i + suc j ≡ i + 1 + j = omega arith in
      omega (arith, rw e at (h (suc j) (omega arith)), mul-suc step j)))

-- the record's test, by the kind's numbers
pub range_parts : (s : Stream) (z : Sizes) {own rest : Bool} → Sized s.kind z
    → own ≡ below_from s.places 0 z.step z.step (z.branches - 1 - 0) → rest ≡ below_from s.places (z.branches - 1) 1 0 (51 - (z.branches - 1))
    → in_range s ≡ ltb s.branch z.branches && (own && rest)
unfolding in_range
range_parts s z e o r =
    let w : z.branches - 1 - 0 ≡ z.branches - 1 = omega arith in
    rw (o, r, w, e.branches, e.step)

-- what the record's test says, in the ranges of the kind's machine
pub record Ranges (s : Stream) : Type 0 where
  pub branch : s.branch < (sizes_of s.kind).branches
  pub places : (x : ℕ) → 0 < x → x < (sizes_of s.kind).branches → get_or s.places (x - 1) 0 < (sizes_of s.kind).step * x
  pub lacks : (j : ℕ) → j < 51 → (sizes_of s.kind).branches ≤ suc j → get_or s.places j 0 ≡ 0

pub ranges : (s : Stream) → in_range s ≡ true → Ranges s
unfolding in_range
ranges s e =
    let z = sizes_of s.kind in
    let p = both (ltb s.branch z.branches) _ e in
    let q = both (below_from s.places 0 z.step z.step (z.branches - 1)) _ p.1 in
    record {
      branch = ltb-true s.branch z.branches p.0;
      places = λ x h l.
          let w : 0 + (x - 1) ≡ x - 1 = omega arith in
          let m : z.step * x ≡ z.step * (x - 1) + z.step = ap (λ (n : ℕ). z.step * n) (let v : x ≡ suc (x - 1) = omega arith in v) ∙ mul-suc z.step (x - 1) in
          omega (arith, m, rw w at (below_at s.places z.step (z.branches - 1) 0 z.step q.0 (x - 1) (omega arith)));
      lacks = λ j h l.
          let w : z.branches - 1 + (j - (z.branches - 1)) ≡ j = omega arith in
          omega (arith, rw w at (below_at s.places 0 (51 - (z.branches - 1)) (z.branches - 1) 1 q.1 (j - (z.branches - 1)) (omega arith)));
    }

-- and the other way round
pub range_in : (s : Stream) → Ranges s → in_range s ≡ true
unfolding in_range
range_in s r =
    let z = sizes_of s.kind in
    rw (
      lt-ltb s.branch z.branches r.branch,
      below_all s.places z.step (z.branches - 1) 0 z.step (λ j h.
          let w : suc j - 1 ≡ 0 + j = omega arith in
          omega (arith, mul-suc z.step j, rw w at (r.places (suc j) (omega arith) (omega arith)))),
    ) (below_all s.places 0 (51 - (z.branches - 1)) (z.branches - 1) 1 (λ j h. omega (arith, r.lacks (z.branches - 1 + j) (omega arith) (omega arith))))

pub within : (way : Way) (s : Stream) → in_range s ≡ true → length s.places ≡ 51 → Within (machine_of way s.kind) (stand_of s)
within way s e l =
    let r = ranges s e in
    record { branch = r.branch; long = omega (arith, l, (sound s.kind).few); places = r.places }
