-- Whole eighths. A sum of two floats that are whole eighths is exact as long as it is at most 2 ^ 24 of them, which is 2,097,152: that many binary32
-- counts without a gap.
use Rattle.std.specs.Prelude.{ℕ, ◌+◌, ◌-◌, ◌*◌, ◌^◌, ◌<◌, ◌≤◌, Bool, true, false, cond, ◌≡◌, refl, ltb, Float}
use Rattle.std.proofs.Common.{true≢false, ⊎_elim, sym, ap, eq-or-lt_of_le, mul-pos, lt_of_lt_of_le, le_of_mul-le-mul_right, arith, lit<, lit≤, shl_lt, ltb-true, ltb-false}
use Rattle.std.proofs.Math.Nat.{eq_of_mul-eq-mul_right}
use Rattle.std.specs.Float.{nan, inf, fin, binary32}
use Rattle.std.specs.Float.Ieee.{up, down, round, sum, add}
use Rattle.std.specs.Float.Ieee.Fits.{down_pos}
use Rattle.std.specs.Float.Ieee.Exact.{HasValue, round_exact}

-- x is finite and is exactly p eighths less n eighths. (fin s m e is m · up e / down e, below zero where s is true)
abbrev pub Worth : Float → ℕ → ℕ → Type 0
Worth nan p n = ⊥
Worth (inf s) p n = ⊥
Worth (fin false m e) p n = m * up e * 8 + n * down e ≡ p * down e
Worth (fin true m e) p n = m * up e * 8 + p * down e ≡ n * down e

-- a fraction of k eighths, k at most 2 ^ 24, is rounded to itself
scaled : (num c k z : ℕ) → 8 * num ≡ k * c → num * (8 * z) ≡ k * z * c
scaled num c k z h = omega (arith, ap (λ (x : ℕ). x * z) h)

itself : (s : Bool) (num c k : ℕ) → 0 < c → 8 * num ≡ k * c → k ≤ 2 ^ 24 → HasValue (round binary32 s num c) s num c
itself s num c k p h l =
    ⊎_elim
    (λ (e : k ≡ 2 ^ 24). round_exact binary32 s num c 1 170 p (lit< tt) (lit< tt) (scaled num c (2 ^ 24) (2 ^ 146) (rw e at h)))
    (λ (e : k < 2 ^ 24). round_exact binary32 s num c k 146 p e (lt_of_lt_of_le (shl_lt 24 146 e) (lit≤ tt)) (scaled num c k (2 ^ 146) h))
    (eq-or-lt_of_le l)

-- so it is k / 8
in_eighths : (x : Float) (s : Bool) (num c k : ℕ) → 0 < c → 8 * num ≡ k * c → HasValue x s num c → HasValue x s k 8
in_eighths nan s num c k p h v = v
in_eighths (inf t) s num c k p h v = v
in_eighths (fin t m e) s num c k p h v =
    (v.0, eq_of_mul-eq-mul_right c p (m * up e * 8) (k * down e) (omega (arith, ap (λ (z : ℕ). z * 8) v.1, ap (λ (z : ℕ). z * down e) h)))

rounded : (s : Bool) (num c k : ℕ) → 0 < c → 8 * num ≡ k * c → k ≤ 2 ^ 24 → HasValue (round binary32 s num c) s k 8
rounded s num c k p h l = in_eighths (round binary32 s num c) s num c k p h (itself s num c k p h l)

-- k / 8 with its sign, as a difference
pub above : (x : Float) (k p n : ℕ) → HasValue x false k 8 → k + n ≡ p → Worth x p n
above nan k p n v h = v
above (inf t) k p n v h = v
above (fin true m e) k p n v h = absurd (true≢false v.0)
above (fin false m e) k p n v h = omega (arith, v.1, ap (λ (z : ℕ). z * down e) h)

pub below : (x : Float) (k p n : ℕ) → HasValue x true k 8 → k + p ≡ n → Worth x p n
below nan k p n v h = v
below (inf t) k p n v h = v
below (fin false m e) k p n v h = absurd (true≢false (sym v.0))
below (fin true m e) k p n v h = omega (arith, v.1, ap (λ (z : ℕ). z * down e) h)

difference : (x p n c : ℕ) → 0 < c → x + n * c ≡ p * c → (n ≤ p) × (x ≡ (p - n) * c)
difference x p n c h e =
    let l : n ≤ p = le_of_mul-le-mul_right (omega (arith, e)) h in
    let k : p - n + n ≡ p = omega arith in
    (l, omega (arith, e, ap (λ (z : ℕ). z * c) k))

plus : (num c p n : ℕ) → 0 < c → 8 * num + n * c ≡ p * c → p ≤ n + 2 ^ 24 → Worth (round binary32 false num c) p n
plus num c p n h e l =
    let d = difference (8 * num) p n c h e in
    above (round binary32 false num c) (p - n) p n (rounded false num c (p - n) h d.1 (omega arith)) (omega (arith, d.0))

minus : (num c p n : ℕ) → 0 < c → 8 * num + p * c ≡ n * c → n ≤ p + 2 ^ 24 → Worth (round binary32 true num c) p n
minus num c p n h e l =
    let d = difference (8 * num) n p c h e in
    below (round binary32 true num c) (n - p) p n (rounded true num c (n - p) h d.1 (omega arith)) (omega (arith, d.0))

-- two numerators over one denominator
over : (m u p n d : ℕ) → m * u * 8 + n * d ≡ p * d → (g : ℕ) → 8 * (m * u * g) + n * (d * g) ≡ p * (d * g)
over m u p n d h g = omega (arith, ap (λ (z : ℕ). z * g) h)

over_too : (m u p n d : ℕ) → m * u * 8 + n * d ≡ p * d → (g : ℕ) → 8 * (m * u * g) + n * (g * d) ≡ p * (g * d)
over_too m u p n d h g = omega (arith, ap (λ (z : ℕ). z * g) h)

-- of two signs: a - b, and b - a, where a zero has the sign of neither
less : (a b c p n : ℕ) → 0 < c → 8 * a + n * c ≡ 8 * b + p * c → p ≤ n + 2 ^ 24 → n ≤ p + 2 ^ 24
    → Worth (cond (ltb a b) (round binary32 true (b - a) c) (round binary32 false (a - b) c)) p n
less a b c p n h e l r = go (ltb a b) (ltb-true a b) (ltb-false a b)
  where
    go : (t : Bool) → (t ≡ true → a < b) → (t ≡ false → b ≤ a) → Worth (cond t (round binary32 true (b - a) c) (round binary32 false (a - b) c)) p n
    go true u v = let k : a < b = u refl in minus (b - a) c p n h (omega arith) r
    go false u v = let k : b ≤ a = v refl in plus (a - b) c p n h (omega arith) l

more : (a b c p n : ℕ) → 0 < c → 8 * b + n * c ≡ 8 * a + p * c → p ≤ n + 2 ^ 24 → n ≤ p + 2 ^ 24
    → Worth (cond (ltb a b) (round binary32 false (b - a) c) (round binary32 (ltb b a) (a - b) c)) p n
more a b c p n h e l r = go (ltb a b) (ltb-true a b) (ltb-false a b) (ltb b a) (ltb-false b a)
  where
    go : (t : Bool) → (t ≡ true → a < b) → (t ≡ false → b ≤ a) → (z : Bool) → (z ≡ false → a ≤ b)
        → Worth (cond t (round binary32 false (b - a) c) (round binary32 z (a - b) c)) p n
    go true u v z y = let k : a < b = u refl in plus (b - a) c p n h (omega arith) l
    go false u v true y = let k : b ≤ a = v refl in minus (a - b) c p n h (omega arith) r
    go false u v false y = let k : b ≤ a = v refl in let j : a ≤ b = y refl in plus (a - b) c p n h (omega arith) l

-- a sum of two is worth the sum of both
pub add_exact : (x y : Float) (p n q o : ℕ) → Worth x p n → Worth y q o → p + q ≤ n + o + 2 ^ 24 → n + o ≤ p + q + 2 ^ 24
    → Worth (add binary32 x y) (p + q) (n + o)
unfolding add sum
add_exact nan y p n q o v w l r = absurd v
add_exact (inf s) y p n q o v w l r = absurd v
add_exact (fin s m e) nan p n q o v w l r = absurd w
add_exact (fin s m e) (inf t) p n q o v w l r = absurd w
add_exact (fin false m e) (fin false u d) p n q o v w l r =
    plus (m * up e * down d + u * up d * down e) (down e * down d) (p + q) (n + o) (mul-pos (down_pos e) (down_pos d))
    (omega (arith, over m (up e) p n (down e) v (down d), over_too u (up d) q o (down d) w (down e))) l
add_exact (fin true m e) (fin true u d) p n q o v w l r =
    minus (m * up e * down d + u * up d * down e) (down e * down d) (p + q) (n + o) (mul-pos (down_pos e) (down_pos d))
    (omega (arith, over m (up e) n p (down e) v (down d), over_too u (up d) o q (down d) w (down e))) r
add_exact (fin false m e) (fin true u d) p n q o v w l r =
    less (m * up e * down d) (u * up d * down e) (down e * down d) (p + q) (n + o) (mul-pos (down_pos e) (down_pos d))
    (omega (arith, over m (up e) p n (down e) v (down d), over_too u (up d) o q (down d) w (down e))) l r
add_exact (fin true m e) (fin false u d) p n q o v w l r =
    more (m * up e * down d) (u * up d * down e) (down e * down d) (p + q) (n + o) (mul-pos (down_pos e) (down_pos d))
    (omega (arith, over m (up e) n p (down e) v (down d), over_too u (up d) q o (down d) w (down e))) l r
