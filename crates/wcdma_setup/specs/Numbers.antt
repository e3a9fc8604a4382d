-- The numbers q of the rows, 3GPP TS 25.212 4.2.3.2.3.2: primes above 6 with no common divisor with p - 1. Each is looked for up to 89, and for
-- each p of the table that is far enough (`q_ends` in Found). These are definitions.
use Rattle.std.specs.Prelude.{ℕ, zero, suc, ◌-◌, ◌%◌, Bool, true, cond, not, ◌&&◌, eqb, ltb}
use Rattle.laws.specs.Euclid.{gcd}

-- none of the n numbers from d on divides q
unfoldable pub no_divisor : ℕ → ℕ → ℕ → Bool
no_divisor q d zero = true
no_divisor q d (suc n) =
    let later = no_divisor q (suc d) n in
    not (eqb (q % d) 0) && later

-- q is a prime: above 1, and none of 2 to q - 1 divides it
unfoldable pub is_prime : ℕ → Bool
is_prime q = ltb 1 q && no_divisor q 2 (q - 2)

-- q may be the number of a row, for m = p - 1: a prime with no common divisor with m
unfoldable pub passes : ℕ → ℕ → Bool
passes m q = is_prime q && eqb (gcd m q) 1

-- the first of the n numbers from q on that passes; 0 if none does
unfoldable pub next_in : ℕ → ℕ → ℕ → ℕ
next_in m q zero = 0
next_in m q (suc n) =
    let later = next_in m (suc q) n in
    cond (passes m q) q later

-- the greater of 6 and q
abbrev pub above : ℕ → ℕ
above q = cond (ltb q 6) 6 q

-- how far each is looked for
abbrev pub farthest : ℕ
farthest = 89

-- the least number above 6 and above q that passes; 0 if it would be above 89
unfoldable pub next_q : ℕ → ℕ → ℕ
next_q m q = next_in m (suc (above q)) (farthest - above q)

-- q(i): q(0) = 1, and each next is the least above the last (3), for m = p - 1
unfoldable pub q_of : ℕ → ℕ → ℕ
q_of m zero = 1
q_of m (suc i) = next_q m (q_of m i)
