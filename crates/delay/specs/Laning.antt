-- One ring's bytes, part way, and the rings one after the other.
use Rattle.std.specs.Prelude.{ℕ, suc, ◌+◌, ◌≤◌, ◌<◌, ◌≡◌, refl, List, length, get_or, set}
use Rattle.std.proofs.Common.{sym, ap, ◌∙◌, not-suc-le-zero, le_refl, arith, length-set, get_or-set_same, get_or-set_other, ext_get_or}
use Rattle.std.proofs.Math.Decide.{dec_lt}
use Rattle.delay.specs.Machine.{Machine, Stand, Slot, offset, gives, keeps, run_output, run_store}
use Rattle.delay.specs.Slots.{Inside, inside_one, inside_lt, found, length_keeps}
use Rattle.delay.specs.Cuts.{length_output, length_store}
use Rattle.delay.specs.Bytes.{ring_at, slot_at, ring_few, turn_apart, slot_inside}
use Rattle.delay.specs.Lane.{past, Lane}
use Rattle.delay.specs.Past.{keep_other, keep_both, give_both, past_all, past_more, length_past, out_at, turn_one, none_before, ring_local, out_local}

-- the rings below x are done, and the others untouched
pub record Rings (M : Machine) (R : Stand) (store input st ou : List ℕ) (x : ℕ) : Type 0 where
  pub long : length st ≡ offset M.step M.branches
  pub full : length store ≡ offset M.step M.branches
  pub room : length ou ≡ length input
  pub done : (y p : ℕ) → y < x → Inside M.step y p → get_or st p 0 ≡ get_or (run_store (slot_at M R) suc 0 store input) p 0
  pub todo : (y p : ℕ) → x ≤ y → Inside M.step y p → get_or st p 0 ≡ get_or store p 0
  pub written : (m : ℕ) → m < length input → ring_at M R m < x → get_or ou m 0 ≡ get_or (run_output (slot_at M R) suc 0 store input) m 0

module _ (M : Machine) (R : Stand) where
  module _ (store input out : List ℕ) (x : ℕ) where
    pub lane_none : (k : ℕ) → k < M.branches → ring_at M R k ≡ x → Lane M R x store input out store out k
    lane_none k h e =
        record {
          long = refl;
          room = refl;
          turned = λ p g. sym (none_before M R store input x p k h g e);
          still = λ p g. refl;
          written = λ m l n d. absurd (turn_apart M R m k (omega arith) (omega arith) (d ∙ sym e));
          kept = λ m g. refl;
        }

    pub lane_more : (st ou : List ℕ) (i w v : ℕ) (st' : List ℕ) → i < length input → length out ≡ length input
        → ((p : ℕ) → Inside M.step x p → p < length store)
        → ring_at M R i ≡ x → w ≡ get_or input i 0
        → v ≡ gives (slot_at M R i) st w → st' ≡ keeps (slot_at M R i) st w
        → Lane M R x store input out st ou i → Lane M R x store input out st' (set ou i v) (i + M.branches)
    lane_more st ou i w v st' h eo fit e ew ev es l =
        record {
          long = ap length es ∙ length_keeps slot st w ∙ l.long;
          room = simp length-set l.room;
          turned = λ p g.
              rw es
              (keep_both slot st now w p (l.long ∙ sym (length_past M R store input i)) (l.turned p g) (omega (arith, fit p g, l.long))
              ∙ ap (λ (k : ℕ). get_or (keeps slot now k) p 0) ew
              ∙ sym (turn_one M R store input x p i g e ∙ ap (λ (k : List ℕ). get_or k p 0) (past_more M R store input i h)));
          still = λ p g. rw es (keep_other slot st w p (λ q. g (rw e at (slot_inside M R i p q))) ∙ l.still p g);
          written = λ m k n d. at m n d (dec_lt m i) (dec_lt i m) k;
          kept = λ m g. get_or-set_other ou i m v 0 (λ q. g (rw q e)) ∙ l.kept m g;
        }
      where
        slot : Slot
        slot = slot_at M R i

        now : List ℕ
        now = past M R store input i

        value : v ≡ get_or (run_output (slot_at M R) suc 0 store input) i 0
        value =
            ev
            ∙ give_both slot st now w (l.long ∙ sym (length_past M R store input i))
            (λ p g. let q : Inside M.step x p = rw e at (slot_inside M R i p g) in (omega (arith, fit p q, l.long), l.turned p q))
            ∙ rw ew (sym (out_at M R store input i h))

        at : (m : ℕ) → m < length input → ring_at M R m ≡ x → Dec (m < i) → Dec (i < m) → m < i + M.branches
            → get_or (set ou i v) m 0 ≡ get_or (run_output (slot_at M R) suc 0 store input) m 0
        at m n d (yes g) f k = get_or-set_other ou i m v 0 (λ q. omega (arith, q)) ∙ l.written m g n d
        at m n d (no g) (yes f) k = absurd (turn_apart M R i m (omega arith) (omega arith) (e ∙ sym d))
        at m n d (no g) (no f) k =
            let q : m ≡ i = omega (arith, g, f) in
            rw q (get_or-set_same ou i v 0 (omega (arith, l.room)) ∙ value)

    pub lane_all : (st ou : List ℕ) (i : ℕ) → length input ≤ i → Lane M R x store input out st ou i
        → Lane M R x store input out st ou (length input)
    lane_all st ou i h l =
        record {
          long = l.long;
          room = l.room;
          turned = λ p g. l.turned p g ∙ rw (past_all M R store input i h, past_all M R store input (length input) (le_refl _));
          still = l.still;
          written = λ m k n d. l.written m (omega arith) n d;
          kept = l.kept;
        }

  module _ (store input : List ℕ) where
    pub rings_none : (ou : List ℕ) → length store ≡ offset M.step M.branches → length ou ≡ length input → Rings M R store input store ou 0
    rings_none ou h e =
        record {
          long = h;
          full = h;
          room = e;
          done = λ y p l g. absurd (not-suc-le-zero l);
          todo = λ y p l g. refl;
          written = λ m l g. absurd (not-suc-le-zero g);
        }

    pub rings_more : (st ou st' ou' : List ℕ) (x : ℕ) → x < M.branches → Rings M R store input st ou x
        → Lane M R x st input ou st' ou' (length input) → Rings M R store input st' ou' (x + 1)
    rings_more st ou st' ou' x h r l =
        record {
          long = l.long ∙ r.long;
          full = r.full;
          room = l.room ∙ r.room;
          done = λ y p k g. was y p g (dec_lt y x) k;
          todo = λ y p k g. l.still p (λ f. omega (arith, inside_one M.step x y p f g)) ∙ r.todo y p (omega arith) g;
          written = λ m k g. wrote m k (dec_lt (ring_at M R m) x) g;
        }
      where
        same : length st ≡ length store
        same = r.long ∙ sym r.full

        fit : (p : ℕ) → Inside M.step x p → p < length st
        fit p g = omega (arith, inside_lt M.step x M.branches p h g, r.long)

        was : (y p : ℕ) → Inside M.step y p → Dec (y < x) → y < x + 1 → get_or st' p 0 ≡ get_or (run_store (slot_at M R) suc 0 store input) p 0
        was y p g (yes k) f = l.still p (λ q. omega (arith, inside_one M.step x y p q g)) ∙ r.done y p k g
        was y p g (no k) f =
            let e : y ≡ x = omega (arith, k) in
            let i : Inside M.step x p = rw e at g in
            l.turned p i
            ∙ ring_local M R st store input x same fit (λ q j. r.todo x q (le_refl x) j) (length input) p i
            ∙ rw (past_all M R store input (length input) (le_refl _))

        wrote : (m : ℕ) → m < length input → Dec (ring_at M R m < x) → ring_at M R m < x + 1
            → get_or ou' m 0 ≡ get_or (run_output (slot_at M R) suc 0 store input) m 0
        wrote m k (yes g) f = l.kept m (λ q. omega (arith, q)) ∙ r.written m k g
        wrote m k (no g) f =
            let e : ring_at M R m ≡ x = omega (arith, g) in
            l.written m k k e ∙ out_local M R st store input x same fit (λ q j. r.todo x q (le_refl x) j) m k e

    pub rings_all : (st ou : List ℕ) → Rings M R store input st ou M.branches
        → (st ≡ run_store (slot_at M R) suc 0 store input) × (ou ≡ run_output (slot_at M R) suc 0 store input)
    rings_all st ou r = (
      ext_get_or 0 st _ (r.long ∙ sym r.full ∙ sym (length_store (slot_at M R) suc input 0 store))
          (λ p h. let f = found M.step M.branches p (omega (arith, r.long)) in r.done f.ring p f.few f.inside),
      ext_get_or 0 ou _ (r.room ∙ sym (length_output (slot_at M R) suc input 0 store)) (λ m h. r.written m (omega (arith, r.room)) (ring_few M R m)),
    )
