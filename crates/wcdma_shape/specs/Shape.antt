-- What the choice of R, p and C says: their bounds, R-as-C of a shape, and that the cells suffice. Rests on Rectangle and Post.
use Rattle.std.specs.Prelude.{ℕ, ◌+◌, ◌*◌, ◌-◌, ◌≤◌, ◌<◌, Bool, true, false, cond, ◌&&◌, ◌||◌, ◌≡◌, refl, ltb, leb}
use Rattle.std.proofs.Math.Bool.{or-true, or-false}
use Rattle.std.proofs.Common.{⊎_elim, sym, ap, ap₂, ◌∙◌, mul-le-mul, arith, leb-true, leb-false, ltb-true, le-leb}
use mathlib.Core.List.Memᴰ
use mathlib.Core.List.{List, [], ◌∷◌, Memᴰ}
use Rattle.std.proofs.lemmas.Bool.{lt-leb}
use Rattle.laws.specs.Members.{both, every, at_each}
use Rattle.laws.specs.Run.{mem_at}
use Rattle.wcdma_shape.specs.declared.Shape.{Shape}
use Rattle.wcdma_shape.specs.Post.{ShapeOf}
use Rattle.wcdma_shape.specs.Rectangle.{within, rows, primes, first_prime, prime, cols_of, cols, cells}

-- what holds of either choice holds of the one that is made
pub choice : {A : Type 0} (P : A → Type 0) (b : Bool) (x y : A) → (b ≡ true → P x) → (b ≡ false → P y) → P (cond b x y)
choice P true x y h l = h refl
choice P false x y h l = l refl

pub within_low : (a b k : ℕ) → within a b k ≡ true → a ≤ k
within_low a b k e = leb-true a k (both (leb a k) (leb k b) e).0

pub within_high : (a b k : ℕ) → within a b k ≡ true → k ≤ b
within_high a b k e = leb-true k b (both (leb a k) (leb k b) e).1

pub rows_pos : (k : ℕ) → 0 < rows k
unfolding rows
rows_pos k =
    choice (λ r. 0 < r) (within 40 159 k) _ _ (λ e. omega arith)
    (λ e. choice (λ r. 0 < r) (within 160 200 k || within 481 530 k) _ _ (λ e. omega arith) (λ e. omega arith))

pub rows_le : (k : ℕ) → rows k ≤ 20
unfolding rows
rows_le k =
    choice (λ r. r ≤ 20) (within 40 159 k) _ _ (λ e. omega arith)
    (λ e. choice (λ r. r ≤ 20) (within 160 200 k || within 481 530 k) _ _ (λ e. omega arith) (λ e. omega arith))

-- p is a prime of the table
first_listed : (l : List ℕ) (k r : ℕ) (ps : List ℕ) → Memᴰ 257 l → ((x : ℕ) → Memᴰ x ps → Memᴰ x l) → Memᴰ (first_prime k r ps) l
unfolding first_prime
first_listed l k r [] last all = last
first_listed l k r (p ∷ ps) last all =
    choice (λ x. Memᴰ x l) (leb k (r * (p + 1))) p (first_prime k r ps) (λ e. all p (Memᴰ.head refl))
    (λ e. first_listed l k r ps last (λ x m. all x (Memᴰ.tail m)))

pub prime_listed : (k : ℕ) → Memᴰ (prime k) primes
unfolding prime primes
prime_listed k =
    choice (λ x. Memᴰ x primes) (within 481 530 k) 53 (first_prime k (rows k) primes) (λ e. mem_at primes 0 12 (omega arith))
    (λ e. first_listed primes k (rows k) primes (mem_at primes 0 51 (omega arith)) (λ x m. m))

-- the table rises from 7 to 257
abbrev rising : List ℕ → Bool
rising [] = true
rising (p ∷ ps) = every (λ x. ltb p x) ps && rising ps

primes_rise : rising primes ≡ true
unfolding primes
primes_rise = refl

primes_between : every (λ p. ltb 6 p && ltb p 258) primes ≡ true
unfolding primes
primes_between = refl

pub listed_big : {p : ℕ} → Memᴰ p primes → 6 < p
listed_big {p} m = ltb-true 6 p (both (ltb 6 p) (ltb p 258) (at_each (λ p. ltb 6 p && ltb p 258) primes primes_between m)).0

pub listed_small : {p : ℕ} → Memᴰ p primes → p < 258
listed_small {p} m = ltb-true p 258 (both (ltb 6 p) (ltb p 258) (at_each (λ p. ltb 6 p && ltb p 258) primes primes_between m)).1

pub prime_big : (k : ℕ) → 6 < prime k
prime_big k = listed_big (prime_listed k)

pub prime_small : (k : ℕ) → prime k < 258
prime_small k = listed_small (prime_listed k)

-- outside 481 to 530, p is the least of the table with K ≤ R·(p + 1)
first_least : (k r x : ℕ) (ps : List ℕ) → rising ps ≡ true → Memᴰ x ps → k ≤ r * (x + 1) → first_prime k r ps ≤ x
unfolding first_prime
first_least k r x [] e m h = absurd (Memᴰ.not-nil m)
first_least k r x (p ∷ ps) e m h =
    let s = both (every (λ x. ltb p x) ps) (rising ps) e in
    ⊎_elim
    (λ q. choice (λ y. y ≤ x) (leb k (r * (p + 1))) p (first_prime k r ps) (λ t. omega arith) (λ t. absurd (misses q (leb-false k (r * (p + 1)) t))))
    (λ n. choice (λ y. y ≤ x) (leb k (r * (p + 1))) p (first_prime k r ps) (λ t. omega (arith, ltb-true p x (at_each (λ x. ltb p x) ps s.0 n)))
    (λ t. first_least k r x ps s.1 n h))
    (Memᴰ.cases_cons m)
  where
    misses : x ≡ p → r * (p + 1) < k → ⊥
    misses q l = let e : r * (x + 1) ≡ r * (p + 1) = rw q in omega arith

pub prime_least : (k x : ℕ) → within 481 530 k ≡ false → Memᴰ x primes → k ≤ rows k * (x + 1) → prime k ≤ x
unfolding prime
prime_least k x e m h = rw e (first_least k (rows k) x primes primes_rise m h)

pub cols_low : (k : ℕ) → prime k - 1 ≤ cols k
unfolding cols cols_of
cols_low k =
    choice (λ c. prime k - 1 ≤ c) (within 481 530 k) _ _ (λ e. omega arith)
    (λ e. choice (λ c. prime k - 1 ≤ c) (leb k (rows k * (prime k - 1))) _ _ (λ e. omega arith)
    (λ e. choice (λ c. prime k - 1 ≤ c) (leb k (rows k * prime k)) _ _ (λ e. omega arith) (λ e. omega arith)))

pub cols_high : (k : ℕ) → cols k ≤ prime k + 1
unfolding cols cols_of
cols_high k =
    choice (λ c. c ≤ prime k + 1) (within 481 530 k) _ _ (λ e. omega arith)
    (λ e. choice (λ c. c ≤ prime k + 1) (leb k (rows k * (prime k - 1))) _ _ (λ e. omega arith)
    (λ e. choice (λ c. c ≤ prime k + 1) (leb k (rows k * prime k)) _ _ (λ e. omega arith) (λ e. omega arith)))

-- R·x where x is at most 258
pub product_small : {r x : ℕ} → r ≤ 20 → x ≤ 258 → r * x ≤ 5160
product_small h l = mul-le-mul h l

pub cells_le : (k : ℕ) → cells k ≤ 5160
unfolding cells
cells_le k = product_small (rows_le k) (let a = cols_high k in let b = prime_small k in let h : cols k ≤ 258 = omega arith in h)

-- R-as-C of a shape
pub shape_total : (z : Shape) → ShapeOf z → {k : ℕ} → z.k ≡ k → z.r * z.c ≡ cells k
unfolding cells
shape_total z s e = ap₂ (λ (r c : ℕ). r * c) s.rows_is s.cols_is ∙ ap cells e

-- the cells suffice

first_fits : (k r : ℕ) (ps : List ℕ) → k ≤ r * 258 → k ≤ r * (first_prime k r ps + 1)
unfolding first_prime
first_fits k r [] h = h
first_fits k r (p ∷ ps) h =
    choice (λ x. k ≤ r * (x + 1)) (leb k (r * (p + 1))) p (first_prime k r ps) (λ e. leb-true k (r * (p + 1)) e) (λ e. first_fits k r ps h)

cols_fit : (k r p : ℕ) → k ≤ r * (p + 1) → k ≤ r * cols_of k r p
unfolding cols_of
cols_fit k r p h =
    choice (λ c. k ≤ r * c) (leb k (r * (p - 1))) _ _ (λ e. leb-true k (r * (p - 1)) e)
    (λ e. choice (λ c. k ≤ r * c) (leb k (r * p)) _ _ (λ e. leb-true k (r * p) e) (λ e. h))

rows_fit : (k : ℕ) → k ≤ 5114 → within 481 530 k ≡ false → k ≤ rows k * 258
unfolding rows
rows_fit k h n =
    choice (λ r. k ≤ r * 258) (within 40 159 k) _ _ (λ e. omega (arith, within_high 40 159 k e))
    (λ e. rw n (choice (λ r. k ≤ r * 258) (within 160 200 k || false) _ _ (λ t. omega (arith, within_high 160 200 k (sym (or-false (within 160 200 k)) ∙ t))) (λ t. omega arith)))

middle_rows : (k : ℕ) → within 481 530 k ≡ true → rows k ≡ 10
unfolding rows
middle_rows k e =
    let lo = within_low 481 530 k e in
    rw (e, le-leb 40 k (omega arith), lt-leb k 159 (omega arith), or-true)

-- every symbol has a cell
pub fits : (k : ℕ) → k ≤ 5114 → k ≤ cells k
unfolding cells cols prime
fits k h = go (within 481 530 k) refl
  where
    go : (b : Bool) → within 481 530 k ≡ b
        → k ≤ rows k * cond b (cond b 53 (first_prime k (rows k) primes)) (cols_of k (rows k) (cond b 53 (first_prime k (rows k) primes)))
    go true e = let hi = within_high 481 530 k e in rw (middle_rows k e) (omega arith)
    go false e = cols_fit k (rows k) (first_prime k (rows k) primes) (first_fits k (rows k) primes (rows_fit k h e))
