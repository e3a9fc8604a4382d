-- A test at each of the n numbers from a on, computed once, and what it says of each number. Rests on Run and Members.
use Rattle.std.specs.Prelude.{◌≡◌, Bool, true, ℕ, ◌+◌, ◌≤◌, ◌<◌}
use Rattle.laws.specs.Run.{run, run_mem}
use Rattle.laws.specs.Members.{every, at_each}

-- the test passes at a, a + 1, .., n of them
abbrev pub span : (ℕ → Bool) → ℕ → ℕ → Bool
span test a n = every test (run (λ i. i) a n)

pub at_number : (test : ℕ → Bool) (a n : ℕ) → span test a n ≡ true → (i : ℕ) → a ≤ i → i < a + n → test i ≡ true
at_number test a n e i h l = at_each test (run (λ i. i) a n) e (run_mem (λ i. i) a n i h l)
