-- The rectangle of the WCDMA turbo interleaver, 3GPP TS 25.212 4.2.3.2.3.1: a block of K symbols is written into R rows of C columns,
-- with a prime p. These are definitions.
use Rattle.std.specs.Prelude.{ℕ, ◌+◌, ◌*◌, ◌-◌, ◌≤◌, Bool, cond, ◌&&◌, ◌||◌, List, [], ◌∷◌, leb}

-- K: the number of symbols in a block, 40 to 5114
pub record Size (k : ℕ) : Type 0 where
  pub low : 40 ≤ k
  pub high : k ≤ 5114

-- a ≤ k ≤ b
abbrev pub within : ℕ → ℕ → ℕ → Bool
within a b k = leb a k && leb k b

-- R: the number of rows (1)
unfoldable pub rows : ℕ → ℕ
rows k = cond (within 40 159 k) 5 (cond (within 160 200 k || within 481 530 k) 10 20)

-- the primes of table 2, from 7 to 257
unfoldable pub primes : List ℕ
primes =
    7 ∷ 11 ∷ 13 ∷ 17 ∷ 19 ∷ 23 ∷ 29 ∷ 31 ∷ 37 ∷ 41 ∷ 43 ∷ 47 ∷ 53
    ∷ 59 ∷ 61 ∷ 67 ∷ 71 ∷ 73 ∷ 79 ∷ 83 ∷ 89 ∷ 97 ∷ 101 ∷ 103 ∷ 107 ∷ 109
    ∷ 113 ∷ 127 ∷ 131 ∷ 137 ∷ 139 ∷ 149 ∷ 151 ∷ 157 ∷ 163 ∷ 167 ∷ 173 ∷ 179 ∷ 181
    ∷ 191 ∷ 193 ∷ 197 ∷ 199 ∷ 211 ∷ 223 ∷ 227 ∷ 229 ∷ 233 ∷ 239 ∷ 241 ∷ 251 ∷ 257
    ∷ []

-- the first p of a rising list with K ≤ R·(p + 1); 257 where none is
unfoldable pub first_prime : ℕ → ℕ → List ℕ → ℕ
first_prime k r [] = 257
first_prime k r (p ∷ ps) =
    let later = first_prime k r ps in
    cond (leb k (r * (p + 1))) p later

-- p: 53 for K 481 to 530, else the least prime of the table with K ≤ R·(p + 1) (2)
unfoldable pub prime : ℕ → ℕ
prime k = cond (within 481 530 k) 53 (first_prime k (rows k) primes)

-- C: p - 1 if K ≤ R·(p - 1), p if R·(p - 1) < K ≤ R·p, p + 1 if R·p < K (2)
unfoldable pub cols_of : ℕ → ℕ → ℕ → ℕ
cols_of k r p = cond (leb k (r * (p - 1))) (p - 1) (cond (leb k (r * p)) p (p + 1))

-- C: the number of columns; for K 481 to 530 it is p
unfoldable pub cols : ℕ → ℕ
cols k = cond (within 481 530 k) (prime k) (cols_of k (rows k) (prime k))

-- R-as-C: the cells of the rectangle
unfoldable pub cells : ℕ → ℕ
cells k = rows k * cols k
