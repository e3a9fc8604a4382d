-- The store when i bytes have passed, ring by ring: a byte changes its own ring only, and looks at no other.
use Prim.Native.Nat.{ℕ, zero, suc, ◌+◌, ◌-◌, ◌≤◌, ◌<◌}
use Rattle.std.specs.Prelude.{◌≡◌, ◌≢◌, set}
use Rattle.std.proofs.Math.Path.{refl, sym, ap}
use Rattle.std.proofs.Common.{◌∙◌, zero-add, add-suc, arith, take-append-drop, get_or-set_same, get_or-set_other, take-suc, take_all, drop-cons}
use mathlib.Core.List.{List, [], ◌∷◌, ◌++◌}
use Rattle.std.proofs.Math.Nat.{add-zero}
use Rattle.std.proofs.Math.Decide.{dec_lt, ℕ_discrete}
use Rattle.std.proofs.Math.ListN.{length, get_or, take, drop}
use Rattle.std.proofs.Math.Seq.{length-take-le, get_or-append-add}
use Rattle.delay.specs.Machine.{Machine, Stand, Slot, through, place, gives, keeps, run_output, run_store, run_record}
use Rattle.delay.specs.Slots.{Inside, inside_one, get_or_there}
use Rattle.delay.specs.Cuts.{output_cut, store_cut, record_count, length_output, length_store}
use Rattle.delay.specs.Bytes.{ring_at, slot_at, turn_apart, slot_inside}
use Rattle.delay.specs.Lane.{past}

-- ---- what a slot leaves at a place

pub keep_other : (q : Slot) (store : List ℕ) (v p : ℕ) → (q ≡ place p → ⊥) → get_or (keeps q store v) p 0 ≡ get_or store p 0
keep_other through store v p h = refl
keep_other (place i) store v p h = get_or-set_other store i p v 0 (λ e. h (ap place (sym e)))

pub keep_both : (q : Slot) (one two : List ℕ) (v p : ℕ) → length one ≡ length two → get_or one p 0 ≡ get_or two p 0 → p < length one
    → get_or (keeps q one v) p 0 ≡ get_or (keeps q two v) p 0
keep_both through one two v p l e h = e
keep_both (place i) one two v p l e h = go (ℕ_discrete p i)
  where
    go : Dec (p ≡ i) → get_or (set one i v) p 0 ≡ get_or (set two i v) p 0
    go (yes g) = rw (sym g) (get_or-set_same one p v 0 h ∙ sym (get_or-set_same two p v 0 (omega arith)))
    go (no g) = get_or-set_other one i p v 0 g ∙ e ∙ sym (get_or-set_other two i p v 0 g)

pub give_both : (q : Slot) (one two : List ℕ) (v : ℕ) → length one ≡ length two
    → ((p : ℕ) → q ≡ place p → (p < length one) × (get_or one p 0 ≡ get_or two p 0)) → gives q one v ≡ gives q two v
give_both through one two v l h = refl
give_both (place i) one two v l h =
    let e = h i refl in
    get_or_there one i v 0 e.0 ∙ e.1 ∙ get_or_there two i 0 v (omega (arith, e.0))

module _ (M : Machine) (R : Stand) where
  module _ (store input : List ℕ) where
    pub past_none : past M R store input 0 ≡ store
    unfolding past run_store
    past_none = refl

    pub past_all : (i : ℕ) → length input ≤ i → past M R store input i ≡ run_store (slot_at M R) suc 0 store input
    unfolding past
    past_all i h = rw (take_all i input h)

    record_take : (i : ℕ) → i ≤ length input → run_record suc 0 (take i input) ≡ i
    record_take i h = record_count (take i input) 0 ∙ zero-add (length (take i input)) ∙ length-take-le i input h

    pub past_more : (i : ℕ) → i < length input → past M R store input (suc i) ≡ keeps (slot_at M R i) (past M R store input i) (get_or input i 0)
    unfolding past run_store
    past_more i h =
        rw (take-suc input i 0 h, store_cut (slot_at M R) suc (take i input) (get_or input i 0 ∷ []) 0 store, record_take i (omega arith))

    pub length_past : (i : ℕ) → length (past M R store input i) ≡ length store
    unfolding past
    length_past i = length_store (slot_at M R) suc (take i input) 0 store

    pub out_at : (i : ℕ) → i < length input
        → get_or (run_output (slot_at M R) suc 0 store input) i 0 ≡ gives (slot_at M R i) (past M R store input i) (get_or input i 0)
    unfolding past run_output
    out_at i h =
        let v = get_or input i 0 in
        let rest = drop (suc i) input in
        let split : input ≡ take i input ++ (v ∷ rest) =
        sym (take-append-drop i input) ∙ ap (λ (l : List ℕ). take i input ++ l) (drop-cons input i 0 h) in
        let len : length (run_output (slot_at M R) suc 0 store (take i input)) + 0 ≡ i =
        add-zero _ ∙ length_output (slot_at M R) suc (take i input) 0 store ∙ length-take-le i input (omega arith) in
        ap (λ (l : List ℕ). get_or (run_output (slot_at M R) suc 0 store l) i 0) split
        ∙ ap (λ (l : List ℕ). get_or l i 0) (output_cut (slot_at M R) suc (take i input) (v ∷ rest) 0 store)
        ∙ ap (λ (k : ℕ). get_or (run_output (slot_at M R) suc 0 store (take i input) ++ run_output (slot_at M R) suc (run_record suc 0 (take i input)) (run_store (slot_at M R) suc 0 store (take i input)) (v ∷ rest)) k 0) (sym len)
        ∙ get_or-append-add (run_output (slot_at M R) suc 0 store (take i input)) _ 0 0
        ∙ ap (λ (k : ℕ). gives (slot_at M R k) (run_store (slot_at M R) suc 0 store (take i input)) v) (record_take i (omega arith))

    -- ---- a byte of another ring changes nothing in this one

    pub other_byte : (x p m : ℕ) → Inside M.step x p → ring_at M R m ≢ x
        → get_or (past M R store input (suc m)) p 0 ≡ get_or (past M R store input m) p 0
    other_byte x p m i d = go (dec_lt m (length input))
      where
        go : Dec (m < length input) → get_or (past M R store input (suc m)) p 0 ≡ get_or (past M R store input m) p 0
        go (yes h) =
            rw (past_more m h)
            (keep_other (slot_at M R m) (past M R store input m) (get_or input m 0) p (λ e. d (inside_one M.step _ x p (slot_inside M R m p e) i)))
        go (no h) = rw (past_all m (omega (arith, h)), past_all (suc m) (omega (arith, h)))

    pub other_bytes : (x p m d : ℕ) → Inside M.step x p → ((k : ℕ) → k < d → ring_at M R (m + k) ≢ x)
        → get_or (past M R store input (m + d)) p 0 ≡ get_or (past M R store input m) p 0
    other_bytes x p m zero i h = rw (add-zero m)
    other_bytes x p m (suc d) i h =
        rw (add-suc m d) (other_byte x p (m + d) i (h d (omega arith)) ∙ other_bytes x p m d i (λ k l. h k (omega arith)))

    -- a turn changes no more in a ring than its one byte does
    pub turn_one : (x p m : ℕ) → Inside M.step x p → ring_at M R m ≡ x
        → get_or (past M R store input (m + M.branches)) p 0 ≡ get_or (past M R store input (suc m)) p 0
    turn_one x p m i e =
        let z : m + M.branches ≡ suc m + (M.branches - 1) = omega arith in
        rw z (other_bytes x p (suc m) (M.branches - 1) i
        (λ k l g. turn_apart M R m (suc m + k) (omega arith) (omega arith) (e ∙ sym g)))

    pub none_before : (x p k : ℕ) → k < M.branches → Inside M.step x p → ring_at M R k ≡ x → get_or (past M R store input k) p 0 ≡ get_or store p 0
    none_before x p k l i e =
        let z : 0 + k ≡ k = omega arith in
        (rw z at (other_bytes x p 0 k i (λ j h g. turn_apart M R (0 + j) k (omega arith) (omega arith) (g ∙ sym e))))
        ∙ rw past_none

  -- ---- a ring's bytes look at that ring only

  pub ring_local : (one two input : List ℕ) (x : ℕ) → length one ≡ length two → ((p : ℕ) → Inside M.step x p → p < length one)
      → ((p : ℕ) → Inside M.step x p → get_or one p 0 ≡ get_or two p 0)
      → (i p : ℕ) → Inside M.step x p → get_or (past M R one input i) p 0 ≡ get_or (past M R two input i) p 0
  ring_local one two input x l w h zero p g = rw (past_none one input, past_none two input) (h p g)
  ring_local one two input x l w h (suc i) p g =
      go (dec_lt i (length input)) (ring_local one two input x l w h i p g)
    where
      go : Dec (i < length input) → get_or (past M R one input i) p 0 ≡ get_or (past M R two input i) p 0
          → get_or (past M R one input (suc i)) p 0 ≡ get_or (past M R two input (suc i)) p 0
      go (yes k) ih =
          rw (past_more one input i k, past_more two input i k)
          (keep_both (slot_at M R i) (past M R one input i) (past M R two input i) (get_or input i 0) p
          (length_past one input i ∙ l ∙ sym (length_past two input i)) ih (rw (length_past one input i) (w p g)))
      go (no k) ih =
          rw (
            past_all one input (suc i) (omega (arith, k)),
            past_all two input (suc i) (omega (arith, k)),
            ← past_all one input i (omega (arith, k)),
            ← past_all two input i (omega (arith, k)),
          ) ih

  pub out_local : (one two input : List ℕ) (x : ℕ) → length one ≡ length two → ((p : ℕ) → Inside M.step x p → p < length one)
      → ((p : ℕ) → Inside M.step x p → get_or one p 0 ≡ get_or two p 0)
      → (m : ℕ) → m < length input → ring_at M R m ≡ x
      → get_or (run_output (slot_at M R) suc 0 one input) m 0 ≡ get_or (run_output (slot_at M R) suc 0 two input) m 0
  out_local one two input x l w h m k e =
      rw (out_at one input m k, out_at two input m k)
      (give_both (slot_at M R m) (past M R one input m) (past M R two input m) (get_or input m 0)
      (length_past one input m ∙ l ∙ sym (length_past two input m))
      (λ p g. let i : Inside M.step x p = rw e at (slot_inside M R m p g) in (rw (length_past one input m) (w p i), ring_local one two input x l w h m p i)))
