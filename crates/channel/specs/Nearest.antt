-- The least distance between any two bytes of a burst in the channel, where they come out of the deinterleaver of a kind. The burst begins at
-- channel byte `at`; its bytes are counted from 0.
use Prim.Native.Nat.{ℕ, zero, suc, ◌+◌, ◌-◌, ◌*◌, ◌%◌, ◌≤◌, ◌<◌, min}
use Rattle.std.specs.Prelude.{◌≡◌, refl}
use Rattle.std.proofs.Common.{◌∙◌, mul-le-mul, le_refl, le_trans, arith, lit<}
use Rattle.std.proofs.Math.Nat.{min-le_left, min-le_right, min-eq_left, min-eq_right}
use Rattle.std.proofs.Math.Decide.{dec_lt}
use Rattle.delay.specs.Machine.{spread_of}
use Rattle.delay.specs.Burst.{distance}
use Rattle.delay.proofs.Burst.{spread}
use Rattle.kinds.specs.declared.sizes.Sizes.{Sizes}
use Rattle.kinds.specs.Kinds.{sizes_of, sound, Sized, place_in}

-- how many places behind its own number channel byte a comes out
abbrev pub delay_of : ℕ → ℕ → ℕ
delay_of kind a = (sizes_of kind).branches * (sizes_of kind).step * ((sizes_of kind).branches - 1 - a % (sizes_of kind).branches)

-- by the kind's numbers, which are small
module _ {kind : ℕ} {z : Sizes} (e : Sized kind z) where
  pub turn_low : z.branches * z.step ≤ 52 * 17
  turn_low = mul-le-mul e.few e.short

  pub delay_low : (a : ℕ) → z.branches * z.step * (z.branches - 1 - a % z.branches) ≤ 52 * 17 * 51
  delay_low a = mul-le-mul {m₂ = 51} turn_low (omega (arith, e.few))

  pub delay_is : (a : ℕ) → z.branches * z.step * (z.branches - 1 - a % z.branches) ≡ delay_of kind a
  delay_is a = rw (e.branches, e.step)

-- how far apart bytes i and k come out
unfoldable pub apart : ℕ → ℕ → ℕ → ℕ → ℕ
apart kind at i k = distance (place_in kind (at + i)) (place_in kind (at + k))

-- the least of g 0, .., g n
unfoldable pub least : (ℕ → ℕ) → ℕ → ℕ
least g zero = g 0
least g (suc n) = min (least g n) (g (suc n))

-- of byte k + 1 from those before it
unfoldable pub nearest_before : ℕ → ℕ → ℕ → ℕ
nearest_before kind at k = least (λ i. apart kind at i (suc k)) k

-- of any two of the first n; where they are fewer than two, of the first two
unfoldable pub nearest_of : ℕ → ℕ → ℕ → ℕ
nearest_of kind at n = least (nearest_before kind at) (n - 2)

-- ---- a loop that has gone through g 0, .., g (i - 1)

pub record Gone (g : ℕ → ℕ) (i d : ℕ) : Type 0 where
  pub some : 0 < i
  pub is : d ≡ least g (i - 1)

pub gone_one : (g : ℕ → ℕ) (i d : ℕ) → i ≡ 1 → d ≡ g 0 → Gone g i d
unfolding least
gone_one g i d e q = rw e (record { some = lit< tt; is = q })

pub gone_more : (g : ℕ → ℕ) (i d i' d' : ℕ) → Gone g i d → i' ≡ i + 1 → d' ≡ min d (g i) → Gone g i' d'
unfolding least
gone_more g i d i' d' h e q =
    let j : i ≡ suc (i - 1) = omega (arith, h.some) in
    let k : i' - 1 ≡ suc (i - 1) = omega (arith, h.some, e) in
    record { some = omega (arith, e); is = rw k (q ∙ cc (h.is, j)) }

-- through all before byte k
pub gone_before : (kind at k d : ℕ) → Gone (λ m. apart kind at m k) k d → d ≡ nearest_before kind at (k - 1)
unfolding nearest_before
gone_before kind at k d h =
    let e : suc (k - 1) ≡ k = omega (arith, h.some) in
    rw e h.is

-- through all of the first n
pub gone_all : (kind at n k d : ℕ) → Gone (nearest_before kind at) (k - 1) d → k - 2 ≡ n - 2 → d ≡ nearest_of kind at n
unfolding nearest_of
gone_all kind at n k d h q =
    let e : k - 1 - 1 ≡ n - 2 = omega (arith, q) in
    rw e at h.is

-- ---- that is the least

least_below : (g : ℕ → ℕ) (n i : ℕ) → i ≤ n → least g n ≤ g i
unfolding least
least_below g zero zero h = le_refl (g 0)
least_below g zero (suc i) h = absurd (omega (arith, h))
least_below g (suc n) i h = go (least_below g n i) (dec_lt i (suc n))
  where
    go : (i ≤ n → least g n ≤ g i) → Dec (i < suc n) → min (least g n) (g (suc n)) ≤ g i
    go below (yes l) = le_trans (min-le_left (least g n) (g (suc n))) (below (omega (arith, l)))
    go below (no m) = let e : i ≡ suc n = omega (arith, m, h) in rw e (min-le_right (least g n) (g (suc n)))

least_is : (g : ℕ → ℕ) (n : ℕ) → (i : ℕ) × (i ≤ n) × (least g n ≡ g i)
unfolding least
least_is g zero = (0, le_refl 0, refl)
least_is g (suc n) = go (least_is g n) (dec_lt (g (suc n)) (least g n))
  where
    go : (i : ℕ) × (i ≤ n) × (least g n ≡ g i) → Dec (g (suc n) < least g n) → (i : ℕ) × (i ≤ suc n) × (min (least g n) (g (suc n)) ≡ g i)
    go p (yes l) = (suc n, le_refl (suc n), min-eq_right (omega (arith, l)))
    go p (no m) = (p.0, omega (arith, p.1), min-eq_left (omega (arith, m)) ∙ p.2)

module _ (kind at n : ℕ) where
  -- no two bytes come out nearer ..
  pub nearest_below : (i k : ℕ) → i < k → k < n → nearest_of kind at n ≤ apart kind at i k
  unfolding nearest_before nearest_of
  nearest_below i k h l =
      let e : suc (k - 1) ≡ k = omega (arith, h) in
      let all : nearest_of kind at n ≤ nearest_before kind at (k - 1) = least_below (nearest_before kind at) (n - 2) (k - 1) (omega (arith, h, l)) in
      rw e at (le_trans all (least_below (λ m. apart kind at m (suc (k - 1))) (k - 1) i (omega (arith, h))))

  -- .. and two do so near
  pub nearest_reached : 1 < n → (i : ℕ) × (k : ℕ) × (i < k) × (k < n) × (nearest_of kind at n ≡ apart kind at i k)
  unfolding nearest_before nearest_of
  nearest_reached h =
      let p = least_is (nearest_before kind at) (n - 2) in
      let q = least_is (λ m. apart kind at m (suc p.0)) p.0 in
      (q.0, suc p.0, omega (arith, q.1), omega (arith, p.1, h), p.2 ∙ q.2)

  -- a burst of no more bytes than there are branches comes out branches·step - 1 or more apart
  pub nearest_within : 1 < n → n ≤ (sizes_of kind).branches → spread_of (sizes_of kind).branches (sizes_of kind).step ≤ nearest_of kind at n
  unfolding apart
  nearest_within h l =
      let r = nearest_reached h in
      let z = sound kind in
      rw r.4
      (spread (sizes_of kind).branches (sizes_of kind).step z.some_branches z.some_step (at + r.0) (at + r.1) (λ e. omega (arith, e, r.2)) (omega (arith, r.2, r.3, l)))

-- of DVB that is 203 ..
pub nearest_within_dvb : (at n : ℕ) → 1 < n → n ≤ 12 → 203 ≤ nearest_of 1 at n
unfolding sizes_of spread_of
nearest_within_dvb = nearest_within 1

-- .. and of ATSC 207
pub nearest_within_atsc : (at n : ℕ) → 1 < n → n ≤ 52 → 207 ≤ nearest_of 2 at n
unfolding sizes_of spread_of
nearest_within_atsc = nearest_within 2
