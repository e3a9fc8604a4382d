-- The order of the couples in the convolutional turbo code of IEEE 802.16, and the tests of its four numbers. (specs/Law.antt: the last passes exactly
-- where no two outputs share a couple.) These are definitions.
use Rattle.std.specs.Prelude.{ℕ, ◌+◌, ◌*◌, ◌/◌, ◌%◌, Bool, cond, not, ◌&&◌, ltb, eqb}
use Rattle.laws.specs.Run.{run}
use Rattle.laws.specs.Position.{position}
use Rattle.laws.specs.Euclid.{gcd}
use Rattle.laws.specs.Walk.{Rule, bare_rule}
use Rattle.couples.specs.declared.Couples.{Couples}

-- Q, for j mod 4 = 0, 1, 2, 3: 1; 1 + N/2 + P1; 1 + P2; 1 + N/2 + P3
unfoldable pub offset : Couples → ℕ → ℕ
offset c b =
    cond (eqb b 0) 1
    (cond (eqb b 1) (1 + c.n / 2 + c.p1)
    (cond (eqb b 2) (1 + c.p2) (1 + c.n / 2 + c.p3)))

-- output couple j is input couple P(j) = (P0·j + Q) mod N
unfoldable pub couple_l : Couples → ℕ → ℕ
couple_l c j = (c.p0 * j + offset c (j % 4)) % c.n

-- input couple a goes to the output that holds it: its place in the list of P
unfoldable pub couple_m : Couples → ℕ → ℕ
couple_m c a = position a (run (couple_l c) 0 c.n)

-- the rule of a block: no padding
abbrev pub coupled_rule : Couples → Rule
coupled_rule c = bare_rule c.n (couple_l c) (couple_m c)

-- each of the four numbers is below N
abbrev pub all_below : Couples → Bool
all_below c = ltb c.p0 c.n && (ltb c.p1 c.n && (ltb c.p2 c.n && ltb c.p3 c.n))

-- P0·b + Q(b) modulo 4, over any Q: what P of an output with j mod 4 = b is modulo 4
unfoldable pub turn : ℕ → (ℕ → ℕ) → ℕ → ℕ
turn p0 q b = (p0 * b + q b) % 4

-- four numbers are different
abbrev pub differ : ℕ → ℕ → ℕ → ℕ → Bool
differ w x y z = not (eqb w x) && (not (eqb w y) && (not (eqb w z) && (not (eqb x y) && (not (eqb x z) && not (eqb y z)))))

unfoldable pub turns_differ : Couples → Bool
turns_differ c =
    let t = turn c.p0 (offset c) in
    differ (t 0) (t 1) (t 2) (t 3)

-- the test of the four together: P0 has no common divisor with N/4, and the four turns are different
unfoldable pub all_apart : Couples → Bool
all_apart c = eqb (gcd (c.n / 4) c.p0) 1 && turns_differ c
