-- The row orders T, 3GPP TS 25.212 4.2.3.2.3.2, table 3: two of twenty rows, chosen by K, and for fewer rows the last row first. Each order of
-- twenty has every row once: one computed test over the whole table.
use Rattle.std.specs.Prelude.{ℕ, ◌-◌, ◌<◌, Bool, true, false, cond, ◌&&◌, ◌||◌, ◌≡◌, refl, ltb, eqb, get_or}
use mathlib.Core.List.{List, [], ◌∷◌, Memᴰ}
use Rattle.std.proofs.Common.{arith, ltb-true, eqb-true}
use Rattle.laws.specs.Perm.{Perm}
use Rattle.laws.specs.Members.{both, every, at_each}
use Rattle.laws.specs.Span.{span, at_number}
use Rattle.laws.specs.Position.{position}
use Rattle.wcdma_shape.specs.Rectangle.{within, rows}

-- the two row orders of twenty rows
unfoldable pub row_orders : List (List ℕ)
row_orders =
    (19 ∷ 9 ∷ 14 ∷ 4 ∷ 0 ∷ 2 ∷ 5 ∷ 7 ∷ 12 ∷ 18 ∷ 16 ∷ 13 ∷ 17 ∷ 15 ∷ 3 ∷ 1 ∷ 6 ∷ 11 ∷ 8 ∷ 10 ∷ [])
    ∷ (19 ∷ 9 ∷ 14 ∷ 4 ∷ 0 ∷ 2 ∷ 5 ∷ 7 ∷ 12 ∷ 18 ∷ 10 ∷ 8 ∷ 13 ∷ 17 ∷ 3 ∷ 1 ∷ 16 ∷ 6 ∷ 15 ∷ 11 ∷ [])
    ∷ []

-- which of the two a size has: the first for K 2281 to 2480 and 3161 to 3210, the second for other K
unfoldable pub which_order : ℕ → ℕ
which_order k = cond (within 2281 2480 k || within 3161 3210 k) 0 1

unfoldable pub order_of : ℕ → List ℕ
order_of k = get_or row_orders (which_order k) []

-- T(i): the row that is read in place i
unfoldable pub row_at : ℕ → ℕ → ℕ
row_at k i = cond (ltb (rows k) 20) (rows k - 1 - i) (get_or (order_of k) i 0)

-- at place i of an order stands a row below 20 whose place is i, and row i has a place below 20 where it stands
abbrev fine : List ℕ → ℕ → Bool
fine o i =
    (ltb (get_or o i 0) 20 && eqb (position (get_or o i 0) o) i)
    && (ltb (position i o) 20 && eqb (get_or o (position i o) 0) i)

abbrev permutes : List ℕ → Bool
permutes o = span (fine o) 0 20

orders_fine : every permutes row_orders ≡ true
unfolding row_orders position
orders_fine = refl

-- a row order of the table and its places undo each other
pub order_perm : {o : List ℕ} → Memᴰ o row_orders → Perm 20 (λ i. get_or o i 0) (λ r. position r o)
order_perm {o} m =
    record {
      l_below = λ i h. ltb-true (get_or o i 0) 20 (both (ltb (get_or o i 0) 20) _ (here i h).0).0;
      m_below = λ r h. ltb-true (position r o) 20 (both (ltb (position r o) 20) _ (here r h).1).0;
      l_of_m = λ r h. eqb-true (get_or o (position r o) 0) r (both (ltb (position r o) 20) _ (here r h).1).1;
      m_of_l = λ i h. eqb-true (position (get_or o i 0) o) i (both (ltb (get_or o i 0) 20) _ (here i h).0).1;
    }
  where
    here : (i : ℕ) → i < 20 → ((ltb (get_or o i 0) 20 && eqb (position (get_or o i 0) o) i) ≡ true) × ((ltb (position i o) 20 && eqb (get_or o (position i o) 0) i) ≡ true)
    here i h =
        both (ltb (get_or o i 0) 20 && eqb (position (get_or o i 0) o) i) _
        (at_number (fine o) 0 20 (at_each permutes row_orders orders_fine m) i (omega arith) (omega arith))

-- the order of a size is one of the two
pub order_listed : (k : ℕ) → Memᴰ (order_of k) row_orders
unfolding order_of which_order row_orders
order_listed k = go (within 2281 2480 k || within 3161 3210 k)
  where
    go : (b : Bool) → Memᴰ (get_or row_orders (cond b 0 1) []) row_orders
    go true = Memᴰ.head refl
    go false = Memᴰ.tail (Memᴰ.head refl)
