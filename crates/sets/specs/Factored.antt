-- The tests of the factors of the two families that read some, change requests 6 and 12, over the record of couples: K of the quadratic interleaver is its n,
-- f1 and f2 are its p0 and p1. `true` is the quadratic interleaver, `false` couples. Rests on Ranges, and on the formulas and tests of the two.
use Rattle.std.specs.Prelude.{◌<◌, Bool, true, false, not, ◌&&◌, List, [], ◌∷◌, ◌≡◌}
use Rattle.laws.specs.Outcome.{Line, line}
use Rattle.quadratic.specs.Formula.{within}
use Rattle.quadratic.specs.Formula as square
use Rattle.couples.specs.declared.Couples.{Couples}
use Rattle.couples.specs.Formula.{all_below}
use Rattle.couples.specs.Formula as couple
use Rattle.couples.specs.Test.{Numbered, all_below_lem}
use Rattle.sets.specs.Ranges.{both_inside}

-- f1 and f2 are from 1 to K - 1, P0 to P3 below N
abbrev pub range_of : Bool → Couples → Bool
range_of true c = within c.n c.p0 && within c.n c.p1
range_of false c = all_below c

-- no two positions share an address, no two outputs a couple
abbrev pub apart_of : Bool → Couples → Bool
apart_of true c = square.all_apart c.n c.p0 c.p1
apart_of false c = couple.all_apart c

abbrev pub factor_lines : Bool → Couples → List Line
factor_lines b c = line 11 (not (range_of b c)) ∷ line 10 (not (apart_of b c)) ∷ []

-- what the tests require of the size; and what the test for 10 requires beside that, of the factors
abbrev pub Sized : Bool → Couples → Type 0
Sized true c = (0 < c.n) × (c.n < 65536)
Sized false c = (0 < c.n) × (c.n < 8192)

abbrev pub Testable : Bool → Couples → Type 0
Testable true c = (0 < c.n) × (c.n < 65536) × (c.p1 < c.n)
Testable false c = Numbered c

pub testable : (b : Bool) (c : Couples) → Sized b c → range_of b c ≡ true → Testable b c
testable true c z t = (z.0, z.1, (both_inside c.n c.p0 c.p1 t).1.1)
testable false c z t = record { size = z.0; small = z.1; below = all_below_lem c t }
