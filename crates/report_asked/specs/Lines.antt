-- A line of bytes: what stands before the first LF, whether there is one, and what stands behind it; and the number that a line says, one to four digits.
-- These are definitions.
use Rattle.std.specs.Prelude.{ℕ, Bool, true, false, cond, ◌||◌, List, [], ◌∷◌, eqb, ltb, length, Option, None, is_some}
use Rattle.numbers.specs.Decimal.{said_by}

-- the first line, without its LF
unfoldable pub line_of : List ℕ → List ℕ
line_of [] = []
line_of (b ∷ bs) = cond (eqb b 10) [] (b ∷ line_of bs)

-- whether it ends in LF
unfoldable pub ended : List ℕ → Bool
ended [] = false
ended (b ∷ bs) = cond (eqb b 10) true (ended bs)

-- what stands behind that
unfoldable pub behind : List ℕ → List ℕ
behind [] = []
behind (b ∷ bs) = cond (eqb b 10) bs (behind bs)

-- the number that a line says: one to four digits
unfoldable pub number_in : List ℕ → Option ℕ
number_in s = cond (ltb 4 (length s)) None (said_by s)

-- a line may begin so: with no byte, or with one to four digits
unfoldable pub begins : List ℕ → Bool
begins s = eqb (length s) 0 || is_some (number_in s)
