-- What a position holds, taken apart for C: a soft value is a sum and a count; a blank is the count 0, and the sum that stood there.
use Rattle.std.specs.Prelude.{ℕ, List, Float}
use Rattle.laws.specs.Outcome.{Outcome}
use Rattle.sets.specs.declared.Refusal.{Refusal}
use Rattle.positions.specs.Heard.{kept}
use Rattle.combine.specs.Answer.{Standing, soft, blank, read_of}
use Rattle.flat.specs.Flat.{set_of, out_of}

-- what reading a position has to say, of what C lends
abbrev pub lent_reading : List ℕ → List Float → List ℕ → ℕ → Outcome Refusal Standing
lent_reading set sums counts position = read_of (set_of set) (kept sums counts) position

abbrev pub sum_held : Float → Standing → Float
sum_held old (soft r) = r.sum
sum_held old blank = old

abbrev pub count_held : Standing → ℕ
count_held (soft r) = r.count
count_held blank = 0

-- what stands behind the two pointers after a call: where it is refused, what stood there
abbrev pub sum_out : Outcome Refusal Standing → Float → Float
sum_out o old = out_of o (sum_held old) old

abbrev pub count_out : Outcome Refusal Standing → ℕ → ℕ
count_out o old = out_of o count_held old
