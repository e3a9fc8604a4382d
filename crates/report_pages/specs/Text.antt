-- The text of the report, to the letter of request 11: a head, a line for each K, and the totals; or `refused` and the number. These are definitions.
use Rattle.std.specs.Prelude.{ℕ, zero, suc, ◌+◌, List, [], ◌∷◌, ◌++◌}
use Rattle.laws.specs.Outcome.{Outcome, done, refused}
use Rattle.words.specs.Puts.{decimal}
use Rattle.wcdma_report.specs.declared.Figures.{Figures}
use Rattle.wcdma_report.specs.declared.Totals.{Totals}
use Rattle.wcdma_report.specs.Report.{figures, totals, sizes_in}
use Rattle.report_asked.specs.declared.Range.{Range}
use Rattle.report_asked.specs.Asked.{asked_by}

-- a space, and a line's end
abbrev pub space : List ℕ
space = 32 ∷ []

abbrev pub end : List ℕ
end = 10 ∷ []

-- "K R C cells pads" and a line's end
unfoldable pub head_text : List ℕ
head_text = 75 ∷ 32 ∷ 82 ∷ 32 ∷ 67 ∷ 32 ∷ 99 ∷ 101 ∷ 108 ∷ 108 ∷ 115 ∷ 32 ∷ 112 ∷ 97 ∷ 100 ∷ 115 ∷ 10 ∷ []

-- a number in decimal, and what stands behind it
unfoldable pub field_text : ℕ → List ℕ → List ℕ
field_text n behind = decimal n ++ behind

-- a line: K, R, C, cells and padding
unfoldable pub row_text : Figures → List ℕ
row_text f =
    field_text f.k space ++ (field_text f.r space ++ (field_text f.c space ++ (field_text f.cells space ++ field_text f.pads end)))

-- the lines of n sizes from the first on
unfoldable pub rows_text : ℕ → ℕ → List ℕ
rows_text first zero = []
rows_text first (suc n) = rows_text first n ++ row_text (figures (first + n))

-- "total ", then sizes, cells and padding
unfoldable pub total_text : Totals → List ℕ
total_text t =
    (116 ∷ 111 ∷ 116 ∷ 97 ∷ 108 ∷ 32 ∷ []) ++ (field_text t.sizes space ++ (field_text t.cells space ++ field_text t.pads end))

unfoldable pub report_text : ℕ → ℕ → List ℕ
report_text first last = head_text ++ (rows_text first (sizes_in first last) ++ total_text (totals first last))

-- "refused ", then the number
unfoldable pub refusal_text : ℕ → List ℕ
refusal_text k = (114 ∷ 101 ∷ 102 ∷ 117 ∷ 115 ∷ 101 ∷ 100 ∷ 32 ∷ []) ++ field_text k end

-- what is asked for, as text
abbrev pub text_of : Outcome ℕ Range → List ℕ
text_of (done r) = report_text r.first r.last
text_of (refused k) = refusal_text k

-- what the bytes of standard input give
unfoldable pub answer_text : List ℕ → List ℕ
answer_text s = text_of (asked_by s)
