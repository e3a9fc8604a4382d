-- One ring's loops: its bytes go to neighbouring places, and at the ring's end to its first place again.
use Rattle.std.specs.Prelude.{ℕ, ◌+◌, ◌-◌, ◌*◌, ◌%◌, ◌≤◌, ◌<◌, ◌≡◌, refl, List, length, get_or, set}
use Rattle.std.proofs.Common.{sym, ap, ◌∙◌, mod-eq_of_lt, add-zero, mul-pos, le_refl, arith, length-set, le-leb}
use Rattle.std.proofs.Math.Nat.{mod_self}
use Rattle.std.proofs.Math.Decide.{dec_lt}
use Rattle.std.proofs.lemmas.Bool.{lt-leb}
use Rattle.laws.specs.declared.Way.{Way}
use Rattle.delay.specs.Machine.{Machine, machine, Stand, place, offset}
use Rattle.delay.specs.Slots.{inside_lt, get_or_there}
use Rattle.delay.specs.Bytes.{ring_at, row_at, slot_at, ring_again, row_few, row_again, slot_row}
use Rattle.delay.specs.Lane.{Lane, Leads, Next, Ring, wrap_of, Turned}
use Rattle.delay.specs.Laning.{lane_none, lane_more, lane_all}

-- ---- a place, stepped

pub wrap_inside : (p first last : ℕ) → p < last → wrap_of p first last ≡ p
unfolding wrap_of
wrap_inside p first last h = rw (lt-leb last p h)

pub wrap_end : (p first last : ℕ) → last ≤ p → wrap_of p first last ≡ first
unfolding wrap_of
wrap_end p first last h = rw (le-leb last p h)

pub wrap_low : (p first last : ℕ) → first < last → wrap_of p first last < last
wrap_low p first last l = go (dec_lt p last)
  where
    go : Dec (p < last) → wrap_of p first last < last
    go (yes h) = rw (wrap_inside p first last h) h
    go (no h) = rw (wrap_end p first last (omega (arith, h))) l

pub wrap_first : (p first last : ℕ) → first ≤ p → first ≤ wrap_of p first last
wrap_first p first last l = go (dec_lt p last)
  where
    go : Dec (p < last) → first ≤ wrap_of p first last
    go (yes h) = rw (wrap_inside p first last h) l
    go (no h) = rw (wrap_end p first last (omega (arith, h))) (le_refl first)

ring_more : (o n k : ℕ) → k < n → o + (k + 1) % n ≡ wrap_of (o + k + 1) o (o + n)
ring_more o n k h = go (dec_lt (k + 1) n)
  where
    go : Dec (k + 1 < n) → o + (k + 1) % n ≡ wrap_of (o + k + 1) o (o + n)
    go (yes l) = rw (mod-eq_of_lt l, wrap_inside (o + k + 1) o (o + n) (omega arith)) (omega arith)
    go (no g) =
        let e : k + 1 ≡ n = omega (arith, g) in
        rw (e, mod_self n, wrap_end (o + k + 1) o (o + n) (omega arith)) (add-zero o)

-- ---- one ring, part way: its bytes below i are moved, byte i is its next and goes to p, or round to the ring's first place

pub record Turning (M : Machine) (R : Stand) (x first last : ℕ) (store₀ input out₀ store out : List ℕ) (i p : ℕ) : Type 0 where
  pub lane : Lane M R x store₀ input out₀ store out i
  pub near : i < length input + M.branches
  pub here : ring_at M R i ≡ x
  pub goes : first + row_at M R i ≡ wrap_of p first last

module _ (M : Machine) (R : Stand) (x first last : ℕ) (g : Ring M x first last) where
  low : (i : ℕ) → ring_at M R i ≡ x → row_at M R i < M.step * x
  low i e = rw e at (row_few M R i (rw e g.some))

  ring_low : first < last
  ring_low = omega (arith, g.ends, mul-pos M.some_step g.some)

  row_next : (i p : ℕ) → ring_at M R i ≡ x → first + row_at M R i ≡ p → first + row_at M R (i + M.branches) ≡ wrap_of (p + 1) first last
  row_next i p e h = rw (row_again M R i, e, ← h, g.ends) (ring_more first (M.step * x) (row_at M R i) (low i e))

  module _ (store₀ input out₀ : List ℕ) (full : length store₀ ≡ offset M.step M.branches) (room : length out₀ ≡ length input) where
    turning_none : (k p : ℕ) → Leads M R x k → p ≡ first + row_at M R k → Turning M R x first last store₀ input out₀ store₀ out₀ k p
    turning_none k p l e = record {
      lane = lane_none M R store₀ input out₀ x k l.few l.here;
      near = omega (arith, l.few);
      here = l.here;
      goes = sym e ∙ sym (wrap_inside p first last (omega (arith, e, g.ends, low k l.here)));
    }

    turning_more : (store out : List ℕ) (i p w v : ℕ) → i < length input → p < last → p < length store → w ≡ get_or input i 0 → v ≡ get_or store p 0
        → Turning M R x first last store₀ input out₀ store out i p
        → Turning M R x first last store₀ input out₀ (set store p w) (set out i v) (i + M.branches) (p + 1)
    turning_more store out i p w v h a fits ew ev t =
        let here : first + row_at M R i ≡ p = t.goes ∙ wrap_inside p first last a in
        let slot : slot_at M R i ≡ place p = slot_row M R i x t.here g.some ∙ ap place (rw (← g.begins) here) in
        record {
          lane =
              lane_more M R store₀ input out₀ x store out i w v (set store p w) h room
              (λ q n. omega (arith, inside_lt M.step x M.branches q g.few n, full)) t.here ew (rw slot (ev ∙ get_or_there store p 0 w fits)) (rw slot) t.lane;
          near = omega arith;
          here = ring_again M R i ∙ t.here;
          goes = row_next i p t.here here;
        }

    turning_wrap : (store out : List ℕ) (i p : ℕ) → Turning M R x first last store₀ input out₀ store out i p
        → Turning M R x first last store₀ input out₀ store out i (wrap_of p first last)
    turning_wrap store out i p t = record {
      lane = t.lane;
      near = t.near;
      here = t.here;
      goes = t.goes ∙ sym (wrap_inside (wrap_of p first last) first last (wrap_low p first last ring_low));
    }

    turning_all : (store out : List ℕ) (i p : ℕ) → length input ≤ i → p < last → Turning M R x first last store₀ input out₀ store out i p
        → Lane M R x store₀ input out₀ store out (length input) × Next M R x (length input) (p - first)
    turning_all store out i p h l t = (
      lane_all M R store₀ input out₀ x store out i h t.lane,
      record { byte = i; low = h; high = t.near; here = t.here; stands = omega (arith, t.goes ∙ wrap_inside p first last l) },
    )

-- ---- from one moment of a ring's loops to a later one, whatever the machine of b branches that has the ring

pub record Steps (b first last : ℕ) (input store₁ out₁ : List ℕ) (i₁ p₁ : ℕ) (store out : List ℕ) (i p : ℕ) : Type 0 where
  pub steps : (way : Way) (s : ℕ) (hb : 0 < b) (hs : 0 < s) (R : Stand) (x : ℕ) → Ring (machine b s hb hs way) x first last
      → (store₀ out₀ : List ℕ) → length store₀ ≡ offset s b → length out₀ ≡ length input
      → Turning (machine b s hb hs way) R x first last store₀ input out₀ store₁ out₁ i₁ p₁
      → Turning (machine b s hb hs way) R x first last store₀ input out₀ store out i p
  pub long : length store ≡ length store₁
  pub room : length out ≡ length out₁

module _ {b first last : ℕ} {input store₁ out₁ : List ℕ} {i₁ p₁ : ℕ} where
  pub steps_none : Steps b first last input store₁ out₁ i₁ p₁ store₁ out₁ i₁ p₁
  steps_none = record { steps = λ way s hb hs R x r st ou f e g. g; long = refl; room = refl }

  module _ {store out : List ℕ} {i p : ℕ} (g : Steps b first last input store₁ out₁ i₁ p₁ store out i p) where
    pub steps_more : {w v : ℕ} → i < length input → p < last → p < length store → w ≡ get_or input i 0 → v ≡ get_or store p 0
        → Steps b first last input store₁ out₁ i₁ p₁ (set store p w) (set out i v) (i + b) (p + 1)
    steps_more {w} {v} h a fits ew ev = record {
      steps = λ way s hb hs R x r st ou f e q.
          turning_more (machine b s hb hs way) R x first last r st input ou f e store out i p w v h a fits ew ev (g.steps way s hb hs R x r st ou f e q);
      long = length-set store p w ∙ g.long;
      room = length-set out i v ∙ g.room;
    }

    pub steps_wrap : Steps b first last input store₁ out₁ i₁ p₁ store out i (wrap_of p first last)
    steps_wrap = record {
      steps = λ way s hb hs R x r st ou f e q.
          turning_wrap (machine b s hb hs way) R x first last r st input ou f e store out i p (g.steps way s hb hs R x r st ou f e q);
      long = g.long;
      room = g.room;
    }

    pub steps_all : length input ≤ i → length out₁ ≡ length input → first ≤ p → p < last → Turned b first last i₁ p₁ store₁ input out₁ store out p
    steps_all h e low high = record {
      lane = λ way s hb hs R x r f l q.
          let M = machine b s hb hs way in
          turning_all M R x first last r store₁ input out₁ f e store out i p h high
          (g.steps way s hb hs R x r store₁ out₁ f e (turning_none M R x first last r store₁ input out₁ f e i₁ p₁ l q));
      long = g.long;
      room = g.room;
      low = low;
      high = high;
    }

  pub steps_then : {store₂ out₂ store out : List ℕ} {i₂ p₂ i p : ℕ} → Steps b first last input store₁ out₁ i₁ p₁ store₂ out₂ i₂ p₂
      → Steps b first last input store₂ out₂ i₂ p₂ store out i p → Steps b first last input store₁ out₁ i₁ p₁ store out i p
  steps_then g h = record {
    steps = λ way s hb hs R x r st ou f e q. h.steps way s hb hs R x r st ou f e (g.steps way s hb hs R x r st ou f e q);
    long = h.long ∙ g.long;
    room = h.room ∙ g.room;
  }
