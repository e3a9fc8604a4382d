-- A sum over numbers in a row: so many terms of at most b are at most so many times b, and where each term is a sum, so is the sum.
use Rattle.std.specs.Prelude.{ℕ, zero, suc, ◌+◌, ◌*◌, ◌≤◌, ◌<◌, ◌≡◌, refl}
use Rattle.std.proofs.Common.{suc-mul, arith}

-- f(first) + f(first + 1) + .., n of them
unfoldable pub sum : (ℕ → ℕ) → ℕ → ℕ → ℕ
sum f first zero = 0
sum f first (suc n) = sum f first n + f (first + n)

pub sum_none : (f : ℕ → ℕ) (first : ℕ) → 0 ≡ sum f first 0
unfolding sum
sum_none f first = refl

pub sum_more : (f : ℕ → ℕ) (first n : ℕ) → sum f first (suc n) ≡ sum f first n + f (first + n)
unfolding sum
sum_more f first n = refl

pub sum_le : (f : ℕ → ℕ) (b first n : ℕ) → ((k : ℕ) → first ≤ k → k < first + n → f k ≤ b) → sum f first n ≤ n * b
unfolding sum
sum_le f b first zero h = omega arith
sum_le f b first (suc n) h =
    omega (arith, suc-mul n b, sum_le f b first n (λ k l m. h k l (omega arith)), h (first + n) (omega arith) (omega arith))

pub sum_adds : (f g h : ℕ → ℕ) (first n : ℕ) → ((k : ℕ) → first ≤ k → k < first + n → f k ≡ g k + h k) → sum f first n ≡ sum g first n + sum h first n
unfolding sum
sum_adds f g h first zero e = refl
sum_adds f g h first (suc n) e =
    omega (arith, sum_adds f g h first n (λ k l m. e k l (omega arith)), e (first + n) (omega arith) (omega arith))
