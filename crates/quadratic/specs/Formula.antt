-- The quadratic interleaver of 3GPP TS 36.212 5.1.3.2.3, and the tests of its two numbers. (proofs/Law.antt: the last passes exactly where no two
-- positions share an address.) These are definitions.
use Rattle.std.specs.Prelude.{ℕ, ◌+◌, ◌*◌, ◌%◌, ◌^◌, Bool, ◌&&◌, ltb, eqb}
use Rattle.laws.specs.Run.{run}
use Rattle.laws.specs.Position.{position}
use Rattle.laws.specs.Euclid.{gcd}
use Rattle.laws.specs.Walk.{Rule, bare_rule}

-- output t holds input L(t) = (f1·t + f2·t²) mod K
unfoldable pub quadratic_l : ℕ → ℕ → ℕ → ℕ → ℕ
quadratic_l k f1 f2 t = (f1 * t + f2 * (t * t)) % k

-- input a goes to the output that holds it: M(a) is the place of a in the list of L
unfoldable pub quadratic_m : ℕ → ℕ → ℕ → ℕ → ℕ
quadratic_m k f1 f2 a = position a (run (quadratic_l k f1 f2) 0 k)

-- the rule of a block: no padding
abbrev pub quadratic_rule : ℕ → ℕ → ℕ → Rule
quadratic_rule k f1 f2 = bare_rule k (quadratic_l k f1 f2) (quadratic_m k f1 f2)

-- a factor is from 1 to k - 1
abbrev pub within : ℕ → ℕ → Bool
within k f = ltb 0 f && ltb f k

-- the test of f1 and f2 together: f1 has no common divisor with K, and every prime of K divides f2, which for a K below 2 to the 16th, where no prime
-- goes into K more than 15 times, is that K divides f2 to the 16th
unfoldable pub all_apart : ℕ → ℕ → ℕ → Bool
all_apart k f1 f2 = eqb (gcd k f1) 1 && eqb (f2 ^ 16 % k) 0
