-- Where each entry stands once, the place of an entry and the entry at a place undo one another. Rests on Once.
use Rattle.std.specs.Prelude.{ℕ, zero, suc, ◌+◌, ◌≤◌, ◌<◌, Bool, true, false, cond, List, [], ◌∷◌, ◌≡◌, refl, eqb, length, get_or, drop}
use Rattle.std.proofs.Common.{ap, sym, le_of_suc-le-suc, add-one, arith, drop-cons, eqb-true, eq-eqb, ne_eqb, lt-ltb}
use Rattle.std.proofs.Math.Seq.{drop-length}
use Rattle.laws.specs.Perm.{Perm}
use Rattle.laws.specs.Keep.{keep}
use Rattle.laws.specs.Once.{inside, count, Below, keep_below, once, kept}

-- where a first stands in a list
unfoldable pub position : ℕ → List ℕ → ℕ
position a [] = 0
position a (x ∷ xs) =
    let rest = suc (position a xs) in
    cond (eqb a x) 0 rest

-- an entry that stands in a list is at its place
pub position_at : (a : ℕ) (l : List ℕ) → 0 < count a l → (position a l < length l) × (get_or l (position a l) 0 ≡ a)
unfolding count position
position_at a [] h = absurd (omega arith)
position_at a (x ∷ xs) h = go (eqb a x) refl h (position_at a xs)
  where
    go : (b : Bool) → eqb a x ≡ b → 0 < cond b (suc (count a xs)) (count a xs) → (0 < count a xs → (position a xs < length xs) × (get_or xs (position a xs) 0 ≡ a))
        → (cond b 0 (suc (position a xs)) < suc (length xs)) × (get_or (x ∷ xs) (cond b 0 (suc (position a xs))) 0 ≡ a)
    go true e h r = (omega arith, sym (eqb-true a x e))
    go false e h r = (let p = (r h).0 in omega arith, (r h).1)

count_pos : (l : List ℕ) (t : ℕ) → t < length l → 0 < count (get_or l t 0) l
unfolding count
count_pos [] t h = absurd (omega arith)
count_pos (x ∷ xs) zero h = rw (eq-eqb x x refl) (omega arith)
count_pos (x ∷ xs) (suc t) h = go (eqb (get_or xs t 0) x) (count_pos xs t (le_of_suc-le-suc h))
  where
    go : (b : Bool) → 0 < count (get_or xs t 0) xs → 0 < cond b (suc (count (get_or xs t 0) xs)) (count (get_or xs t 0) xs)
    go true r = omega arith
    go false r = r

-- and the place of an entry that stands once is where it stands
pub position_of : (l : List ℕ) (t : ℕ) → t < length l → count (get_or l t 0) l ≡ 1 → position (get_or l t 0) l ≡ t
unfolding count position
position_of [] t h e = absurd (omega arith)
position_of (x ∷ xs) zero h e = rw (eq-eqb x x refl)
position_of (x ∷ xs) (suc t) h e = go (eqb (get_or xs t 0) x) e (position_of xs t (le_of_suc-le-suc h))
  where
    go : (b : Bool) → cond b (suc (count (get_or xs t 0) xs)) (count (get_or xs t 0) xs) ≡ 1 → (count (get_or xs t 0) xs ≡ 1 → position (get_or xs t 0) xs ≡ t)
        → cond b 0 (suc (position (get_or xs t 0) xs)) ≡ suc t
    go true e r = absurd (omega (arith, count_pos xs t (le_of_suc-le-suc h)))
    go false e r = ap suc (r e)

pub below_at : (m : ℕ) (l : List ℕ) → Below m l → (t : ℕ) → t < length l → get_or l t 0 < m
unfolding Below
below_at m [] b t h = absurd (omega arith)
below_at m (x ∷ xs) b zero h = b.0
below_at m (x ∷ xs) b (suc t) h = below_at m xs b.1 t (le_of_suc-le-suc h)

-- a list of k entries, all below k, in which each number below k stands once: entry and place are rules that undo each other
pub once_perm : (k : ℕ) (l : List ℕ) → length l ≡ k → Below k l → ((a : ℕ) → a < k → count a l ≡ 1) → Perm k (λ t. get_or l t 0) (λ a. position a l)
once_perm k l e b once =
    record {
      l_below = λ t h. below_at k l b t (omega (arith, e));
      m_below = λ a h. omega (arith, (position_at a l (omega (arith, once a h))).0, e);
      l_of_m = λ a h. (position_at a l (omega (arith, once a h))).1;
      m_of_l = λ t h. position_of l t (omega (arith, e)) (once (get_or l t 0) (below_at k l b t (omega (arith, e))));
    }

-- the values below k of a one-to-one map of the numbers below n, in the order of the cells
pub kept_perm : (f : ℕ → ℕ) (n : ℕ) → ((x : ℕ) → x < n → f x < n) → ((x y : ℕ) → x < n → y < n → f x ≡ f y → x ≡ y) → (k : ℕ) → k ≤ n
    → Perm k (λ t. get_or (keep f (inside k) 0 n) t 0) (λ a. position a (keep f (inside k) 0 n))
kept_perm f n range apart k h =
    once_perm k (keep f (inside k) 0 n) (kept f n range apart k h) (keep_below f k 0 n)
    (λ a l. once f n range apart (inside k) a (omega arith) (lt-ltb a k l))

-- looking for a place from the front, entry after entry
module _ (a : ℕ) (l : List ℕ) (i : ℕ) where
  pub position_here : i < length l → get_or l i 0 ≡ a → position a (drop i l) ≡ 0
  unfolding position
  position_here h e = rw (drop-cons l i 0 h) (rw (eq-eqb a (get_or l i 0) (sym e)))

  pub position_later : i < length l → (get_or l i 0 ≡ a → ⊥) → position a (drop i l) ≡ 1 + position a (drop (i + 1) l)
  unfolding position
  position_later h n = rw (drop-cons l i 0 h, add-one) (rw (ne_eqb a (get_or l i 0) (λ e. n (sym e))) (omega arith))

  pub position_end : i ≡ length l → position a (drop i l) ≡ 0
  unfolding position
  position_end e = rw (e, drop-length)
