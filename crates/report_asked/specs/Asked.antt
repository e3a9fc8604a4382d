-- What two lines ask for, request 11: "A line missing or not one to four digits, a first above the last, or either not 40 to 5,114 gives [..] `refused 3`;
-- the second line may end with the input, and nothing after it is read." And when bytes settle it. These are definitions.
use Rattle.std.specs.Prelude.{ℕ, Bool, true, false, cond, not, List, Option, Some, None}
use Rattle.laws.specs.Outcome.{Outcome, refused, judged}
use Rattle.wcdma_report.specs.Report.{is_size, totals_lines}
use Rattle.report_asked.specs.declared.Range.{Range}
use Rattle.report_asked.specs.Lines.{line_of, ended, behind, number_in, begins}

abbrev pub range : ℕ → ℕ → Range
range first last = record { first = first; last = last }

-- what is asked for by the numbers of two lines: refused as the totals of that range are, and where a line says none
unfoldable pub range_of : Option ℕ → Option ℕ → Outcome ℕ Range
range_of (Some first) (Some last) = judged (λ k. k) (totals_lines first last) (range first last)
range_of (Some first) None = refused 3
range_of None n = refused 3

-- what is asked for by the bytes of standard input
unfoldable pub asked_by : List ℕ → Outcome ℕ Range
asked_by s = cond (ended s) (range_of (number_in (line_of s)) (number_in (line_of (behind s)))) (refused 3)

-- the same where the first is known, by the bytes behind its line
abbrev pub asked_last : ℕ → List ℕ → Outcome ℕ Range
asked_last first s = range_of (Some first) (number_in (line_of s))

-- the first line's number goes on to the second line
abbrev pub is_size_in : Option ℕ → Bool
is_size_in (Some v) = is_size v
is_size_in None = false

-- the bytes settle it: the first line has begun as no line may, or it has ended and says no size, or the second has begun as no line may. (A line that
-- has ended holds an LF, and has begun so too.)
unfoldable pub settled_by : List ℕ → Bool
settled_by s = cond (ended s) (cond (is_size_in (number_in (line_of s))) (not (begins (behind s))) true) (not (begins s))
