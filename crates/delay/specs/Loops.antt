-- What holds at each turn of a feed's loops: over a stretch of neighbouring places, over a ring, over the bytes that pass through.
use Rattle.std.specs.Prelude.{ℕ, ◌+◌, ◌-◌, ◌*◌, ◌/◌, ◌%◌, ◌≤◌, ◌<◌, min, ◌≡◌, refl, List, length, get_or, set}
use Rattle.std.proofs.Common.{sym, ap, ◌∙◌, mod-lt, mul-le-mul_left, mul-zero, mul-one, mul-add, mul-suc, add-one, arith, length-set, lt-ltb, le-ltb}
use Rattle.std.proofs.Math.Nat.{le-min, min-le_left, min-le_right, div-add-mod}
use Rattle.std.proofs.Math.Decide.{dec_lt}
use Rattle.laws.specs.declared.Way.{Way}
use Rattle.delay.specs.Machine.{machine, Stand}
use Rattle.delay.specs.Slots.{inside_none}
use Rattle.delay.specs.Bytes.{ring_at, ring_again, slot_through}
use Rattle.delay.specs.Lane.{Lane, Leads, wrap_of, Left, count_of, Turned, Passed}
use Rattle.delay.specs.Laning.{lane_none, lane_more, lane_all}
use Rattle.delay.specs.Turning.{wrap_low, wrap_first, Steps, steps_none, steps_more, steps_wrap, steps_then, steps_all}

-- ---- how many bytes of a ring are left, and how far a stretch of them goes: to the last of them, or to the ring's end

-- n bytes are n / b whole turns and n % b more: one of ring's bytes in each turn, and one in the rest where the ring's first byte k is there
module _ (b n k : ℕ) (h : k < b) where
  whole : b * (n / b) + n % b ≡ n
  whole = div-add-mod n b

  pub left_all : Left b (n - k) (count_of (n / b) (n % b) k)
  unfolding count_of
  left_all = go (dec_lt k (n % b))
    where
      ring_one : b * (n / b + 1) ≡ b * (n / b) + b
      ring_one = rw (add-one (n / b)) (mul-suc b (n / b))

      go : Dec (k < n % b) → Left b (n - k) (count_of (n / b) (n % b) k)
      go (yes l) =
          rw (lt-ltb k (n % b) l)
          (record { few = omega (arith, whole, ring_one); all = omega (arith, whole, ring_one, mod-lt n (let z : 0 < b = omega arith in z)) })
      go (no l) = rw (le-ltb k (n % b) (omega (arith, l))) (record { few = omega (arith, whole, l); all = omega (arith, whole, l) })

module _ {b rest left : ℕ} (l : Left b rest left) where
  pub left_rest : 0 < left → 0 < rest
  left_rest h = omega (arith, l.few, mul-le-mul_left b (let z : 1 ≤ left = h in z), mul-one b)

  pub rest_left : left ≤ 0 → rest ≤ 0
  rest_left h = omega (arith, l.all, ap (λ (x : ℕ). b * x) (let z : left ≡ 0 = omega arith in z), mul-zero b)

  -- there are bytes for as many places
  pub left_fits : {n : ℕ} → n ≤ left → b * n < rest + b
  left_fits h = omega (arith, l.few, mul-le-mul_left b h)

-- ---- a stretch, from place p₁ and byte i₁ to the place stop, in whatever ring

pub record Stretching (b : ℕ) (input store₁ out₁ : List ℕ) (i₁ p₁ stop : ℕ) (store out : List ℕ) (i p : ℕ) : Type 0 where
  pub moves : (first last : ℕ) → stop ≤ last → Steps b first last input store₁ out₁ i₁ p₁ store out i p
  pub most : p ≤ stop
  pub fits : b * stop + i < length input + b + b * p
  pub moved : i + b * p₁ ≡ i₁ + b * p
  pub short : stop ≤ length store
  pub long : length store ≡ length store₁
  pub room : length out ≡ length input

pub stretching_none : {b : ℕ} {input store₁ out₁ : List ℕ} {i₁ p₁ : ℕ} (n : ℕ) → p₁ + n ≤ length store₁ → b * n + i₁ < length input + b → length out₁ ≡ length input
    → Stretching b input store₁ out₁ i₁ p₁ (p₁ + n) store₁ out₁ i₁ p₁
stretching_none {b} {p₁ = p₁} n l f e = record {
  moves = λ first last k. steps_none;
  most = omega arith;
  fits = omega (arith, mul-add b p₁ n);
  moved = refl;
  short = l;
  long = refl;
  room = e;
}

module _ {b : ℕ} {input store₁ out₁ : List ℕ} {i₁ p₁ stop : ℕ} where
  module _ {store out : List ℕ} {i p : ℕ} (g : Stretching b input store₁ out₁ i₁ p₁ stop store out i p) where
    -- there is a byte for the next place
    pub byte_left : p < stop → i < length input
    byte_left h = omega (arith, g.fits, next)
      where
        next : b * (p + 1) ≤ b * stop
        next = mul-le-mul_left b (omega arith)

    pub stretching_more : {w v : ℕ} → p < stop → w ≡ get_or input i 0 → v ≡ get_or store p 0
        → Stretching b input store₁ out₁ i₁ p₁ stop (set store p w) (set out i v) (i + b) (p + 1)
    stretching_more {w} {v} h ew ev = record {
      moves = λ first last k. steps_more (g.moves first last k) (byte_left h) (omega arith) (omega (arith, g.short)) ew ev;
      most = omega arith;
      fits = omega (arith, g.fits);
      moved = omega (arith, g.moved);
      short = simp length-set g.short;
      long = simp length-set g.long;
      room = simp length-set g.room;
    }

    pub stretching_all : p ≡ stop → Stretching b input store₁ out₁ i₁ p₁ stop store out i stop
    stretching_all e = rw e at g

-- ---- a ring, stretch by stretch

pub record Rounds (b first last : ℕ) (input store₀ out₀ : List ℕ) (i₀ p₀ : ℕ) (store out : List ℕ) (i p : ℕ) : Type 0 where
  pub moves : Steps b first last input store₀ out₀ i₀ p₀ store out i p
  pub high : first ≤ p
  pub low : p < last
  pub short : last ≤ length store
  pub room : length out ≡ length input

module _ {b first last : ℕ} {input store₀ out₀ : List ℕ} {i₀ p₀ : ℕ} where
  pub rounds_none : first ≤ p₀ → p₀ < last → last ≤ length store₀ → length out₀ ≡ length input → Rounds b first last input store₀ out₀ i₀ p₀ store₀ out₀ i₀ p₀
  rounds_none l h n e = record { moves = steps_none; high = l; low = h; short = n; room = e }

  module _ {store₁ out₁ : List ℕ} {i₁ p₁ : ℕ} (g : Rounds b first last input store₀ out₀ i₀ p₀ store₁ out₁ i₁ p₁) where
    -- a stretch goes to the last of left bytes, or to the ring's end
    pub least_of : {left n : ℕ} → 0 < left → n ≡ min left (last - p₁) → (0 < n) × (n ≤ left) × (n ≤ last - p₁)
    least_of {left} h e =
        let some : 0 < last - p₁ = omega (arith, g.low) in
        rw e (le-min h some, min-le_left left (last - p₁), min-le_right left (last - p₁))

    -- a stretch of n places goes round at the ring's end
    pub rounds_more : {store out : List ℕ} {i n q : ℕ} → n ≤ last - p₁ → Stretching b input store₁ out₁ i₁ p₁ (p₁ + n) store out i (p₁ + n)
        → q ≡ wrap_of (p₁ + n) first last → Rounds b first last input store₀ out₀ i₀ p₀ store out i q
    rounds_more {n = n} l h w = rw w (record {
      moves = steps_wrap (steps_then g.moves (h.moves first last (omega (arith, g.low))));
      high = wrap_first (p₁ + n) first last (omega (arith, g.high));
      low = wrap_low (p₁ + n) first last (omega (arith, g.high, g.low));
      short = omega (arith, g.short, h.long);
      room = h.room;
    })

    pub rounds_all : length input ≤ i₁ → length out₀ ≡ length input → Turned b first last i₀ p₀ store₀ input out₀ store₁ out₁ p₁
    rounds_all h e = steps_all g.moves h e g.high g.low

-- after a stretch of n places n bytes of the ring fewer are left
pub left_after : {b : ℕ} {input store₁ out₁ : List ℕ} {i₁ p₁ : ℕ} {store out : List ℕ} {i n left : ℕ}
    → Stretching b input store₁ out₁ i₁ p₁ (p₁ + n) store out i (p₁ + n) → i₁ < length input → n ≤ left → Left b (length input - i₁) left
    → Left b (length input - i) (left - n)
left_after {b} {p₁ = p₁} {n = n} {left} g h l w =
    let e : n + (left - n) ≡ left = omega arith in
    let m : b * n + b * (left - n) ≡ b * left = sym (mul-add b n (left - n)) ∙ ap (λ (x : ℕ). b * x) e in
    record { few = omega (arith, w.few, m, g.moved, mul-add b p₁ n); all = omega (arith, w.all, m, g.moved, mul-add b p₁ n) }

-- ---- the bytes of ring 0, from byte i₀ on

pub record Passing (b i₀ : ℕ) (input out₀ out : List ℕ) (i : ℕ) : Type 0 where
  pub lane : (way : Way) (s : ℕ) (hb : 0 < b) (hs : 0 < s) (R : Stand) (store : List ℕ) → Leads (machine b s hb hs way) R 0 i₀
      → Lane (machine b s hb hs way) R 0 store input out₀ store out i × (ring_at (machine b s hb hs way) R i ≡ 0)
  pub room : length out ≡ length out₀

module _ {b i₀ : ℕ} {input out₀ : List ℕ} where
  pub passing_none : Passing b i₀ input out₀ out₀ i₀
  passing_none = record {
    lane = λ way s hb hs R store l. (lane_none (machine b s hb hs way) R store input out₀ 0 i₀ l.few l.here, l.here);
    room = refl;
  }

  module _ {out : List ℕ} {i : ℕ} (g : Passing b i₀ input out₀ out i) where
    pub passing_more : {w : ℕ} → i < length input → length out₀ ≡ length input → w ≡ get_or input i 0 → Passing b i₀ input out₀ (set out i w) (i + b)
    passing_more {w} h eo ew = record {
      lane = λ way s hb hs R store l.
          let M = machine b s hb hs way in
          let was = g.lane way s hb hs R store l in
          let slot = slot_through M R i was.1 in (
            lane_more M R store input out₀ 0 store out i w w store h eo (λ p q. absurd (inside_none s p q)) was.1 ew (rw slot) (rw slot) was.0,
            ring_again M R i ∙ was.1,
          );
      room = length-set out i w ∙ g.room;
    }

    pub passing_all : length input ≤ i → Passed b i₀ input out₀ out
    passing_all h = record {
      lane = λ way s hb hs R store l. lane_all (machine b s hb hs way) R store input out₀ 0 store out i h (g.lane way s hb hs R store l).0;
      room = g.room;
    }
