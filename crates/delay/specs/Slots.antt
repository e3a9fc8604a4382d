-- Facts on rings, slots and what a byte does to the store, over the number of branches and the step.
use Rattle.std.specs.Prelude.{ℕ, zero, suc, ◌+◌, ◌-◌, ◌*◌, ◌/◌, ◌%◌, ◌≤◌, ◌<◌, ◌≡◌, refl, List, [], ◌∷◌, length, get_or}
use Rattle.std.proofs.Common.{ap, ◌∙◌, le_refl, mul-zero, mul-suc, suc-mul, mul_right_comm, add-zero, add-suc, div-add-mod', lt_of_mul-lt-mul_right, mul-le-mul_right, zero-lt-suc, not-suc-le-zero, le_of_suc-le-suc, arith, length-set}
use Rattle.laws.specs.declared.Way.{Way}
use Rattle.laws.specs.declared.Way.TheVariants.{Interleaver, Deinterleaver}
use Rattle.std.proofs.Math.Nat.{add-mul-div_right}
use Rattle.std.proofs.Math.Decide.{dec_lt}
use Rattle.delay.specs.Machine.{Slot, through, place, ring_of, offset, slot_in, keeps}

-- ---- offsets: a ring begins where the one before it ends

triple : (s x : ℕ) → s * suc x * (suc x - 1) ≡ s * x * (x - 1) + s * x * 2
triple s zero = simp mul-zero
triple s (suc y) =
    let e : suc (suc y) - 1 ≡ suc y = omega arith in
    let d : suc y - 1 ≡ y = omega arith in
    rw (e, d, mul_right_comm s (suc (suc y)) (suc y), mul-suc (s * suc y) (suc y), mul-suc (s * suc y) y) (omega arith)

pub offset_suc : (s x : ℕ) → offset s (suc x) ≡ offset s x + s * x
unfolding offset
offset_suc s x = ap (λ (k : ℕ). k / 2) (triple s x) ∙ add-mul-div_right (s * x * (x - 1)) (s * x) (zero-lt-suc 1)

pub offset_le : (s x k : ℕ) → offset s x ≤ offset s (x + k)
offset_le s x zero = rw (add-zero x) (le_refl (offset s x))
offset_le s x (suc k) = rw (add-suc x k, offset_suc s (x + k)) (omega (arith, offset_le s x k))

-- the ring x ends where, or before, a later ring begins
pub offset_end : (s x y : ℕ) → x < y → offset s x + s * x ≤ offset s y
offset_end s x y h =
    let e : suc x + (y - suc x) ≡ y = omega arith in
    rw (← offset_suc s x) (rw e at (offset_le s (suc x) (y - suc x)))

-- ---- rings

pub ring_lt : (way : Way) (b j : ℕ) → j < b → ring_of way b j < b
ring_lt Interleaver b j h = h
ring_lt Deinterleaver b j h = omega arith

pub ring_inj : (way : Way) (b j k : ℕ) → j < b → k < b → ring_of way b j ≡ ring_of way b k → j ≡ k
ring_inj Interleaver b j k h g e = e
ring_inj Deinterleaver b j k h g e = omega arith

-- the ring of ring x's branch is x: branches and rings are counted from one end, or from both
pub there_and_back : (way : Way) (b x : ℕ) → x < b → ring_of way b (ring_of way b x) ≡ x
there_and_back Interleaver b x h = refl
there_and_back Deinterleaver b x h = omega arith

-- ---- a place in the store

-- place p of the store lies in ring x
pub record Inside (s x p : ℕ) : Type 0 where
  pub low : offset s x ≤ p
  pub high : p < offset s (suc x)

-- in one ring
pub inside_one : (s x y p : ℕ) → Inside s x p → Inside s y p → x ≡ y
inside_one s x y p h g = go (dec_lt x y) (dec_lt y x)
  where
    go : Dec (x < y) → Dec (y < x) → x ≡ y
    go (yes l) d = absurd (omega (arith, h.high, g.low, offset_suc s x, offset_end s x y l))
    go (no l) (yes m) = absurd (omega (arith, h.low, g.high, offset_suc s y, offset_end s y x m))
    go (no l) (no m) = omega (arith, l, m)

-- before a later ring begins
pub inside_lt : (s x n p : ℕ) → x < n → Inside s x p → p < offset s n
inside_lt s x n p h g = omega (arith, g.high, offset_suc s x, offset_end s x n h)

-- ring 0 has no place
pub inside_none : (s p : ℕ) → Inside s 0 p → ⊥
unfolding offset
inside_none s p h = omega (arith, h.low, h.high)

-- each place before ring n lies in a ring
pub record Found (s n p : ℕ) : Type 0 where
  pub ring : ℕ
  pub few : ring < n
  pub inside : Inside s ring p

none_first : (s : ℕ) → offset s 0 ≡ 0
unfolding offset
none_first s = omega arith

pub found : (s n p : ℕ) → p < offset s n → Found s n p
found s zero p h = absurd (omega (arith, none_first s))
found s (suc n) p h = go (dec_lt p (offset s n)) (found s n p)
  where
    go : Dec (p < offset s n) → (p < offset s n → Found s n p) → Found s (suc n) p
    go (yes g) ih = let f = ih g in record { ring = f.ring; few = omega (arith, f.few); inside = f.inside }
    go (no g) ih = record { ring = n; few = le_refl (suc n); inside = record { low = omega (arith, g); high = h } }

pub at_slot : (s x n i : ℕ) → slot_in s x n ≡ place i → (0 < x) × (i ≡ offset s x + n)
at_slot s zero n i e = let z : ◌≡◌ {A = ℕ} 0 1 = cc in omega arith
at_slot s (suc x) n i e = (zero-lt-suc x, cc)

pub slot_at_lem : (s x n : ℕ) → 0 < x → slot_in s x n ≡ place (offset s x + n)
slot_at_lem s zero n h = absurd (not-suc-le-zero h)
slot_at_lem s (suc x) n h = refl

-- ---- two numbers with one remainder are a whole divisor apart

pub rows_lt : (m p q : ℕ) → p < q → q % m ≡ p % m → p / m < q / m
rows_lt m p q h e = lt_of_mul-lt-mul_right m (omega (arith, div-add-mod' p m, div-add-mod' q m))

pub gap : (m p q : ℕ) → p < q → q % m ≡ p % m → p + m ≤ q
gap m p q h e =
    omega (arith, div-add-mod' p m, div-add-mod' q m, suc-mul (p / m) m, mul-le-mul_right m (rows_lt m p q h e))

-- ---- what a byte does to the store

-- an entry that is there is the same whatever would stand in for it
pub get_or_there : {A : Type 0} (l : List A) (i : ℕ) (a b : A) → i < length l → get_or l i a ≡ get_or l i b
get_or_there [] i a b h = absurd (not-suc-le-zero h)
get_or_there (x ∷ xs) zero a b h = refl
get_or_there (x ∷ xs) (suc i) a b h = get_or_there xs i a b (le_of_suc-le-suc h)

pub length_keeps : {A : Type 0} (p : Slot) (store : List A) (b : A) → length (keeps p store b) ≡ length store
length_keeps through store b = refl
length_keeps (place i) store b = length-set store i b
