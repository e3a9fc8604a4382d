-- The padding report from the bytes of standard input to its text, request 11: "each line in decimal", `refused 3` for all else, "the second line may end
-- with the input, and nothing after it is read", and the whole output.
use Rattle.std.specs.Prelude.{ℕ, suc, ◌+◌, ◌-◌, ◌<◌, true, false, List, [], ◌∷◌, ◌++◌, ◌↔◌, ◌≡◌, get_or}
use Rattle.std.proofs.Math.Path.{ap}
use Rattle.laws.specs.Outcome.{done, refused}
use Rattle.words.specs.Puts.{decimal}
use Rattle.wcdma_report.specs.declared.Figures.{Figures}
use Rattle.wcdma_report.specs.declared.Totals.{Totals}
use Rattle.wcdma_report.specs.Report.{figures, totals, Between}
use Rattle.report_asked.specs.Digits.{Digits, decimal_from}
use Rattle.report_asked.specs.Asked.{range, asked_by, settled_by}
use Rattle.report_asked.specs.Exactly.{TwoLines}
use Rattle.report_asked.specs.Exactly as lines
use Rattle.report_asked.specs.Settled.{Open}
use Rattle.report_asked.specs.Settled as law
use Rattle.report_pages.specs.Text.{space, end, head_text, row_text, rows_text, total_text, text_of, report_text, answer_text}
use Rattle.report_pages.specs.Spelled.{total_word}
use Rattle.report_pages.specs.Spelled as spelled
use Rattle.report_pages.specs.Answered.{refused3, four_lines}
use Rattle.report_pages.specs.Answered as answered

module _ (s : List ℕ) where
  -- a first K and a last are asked for exactly where the bytes are two lines that say them, and 40 ≤ first ≤ last ≤ 5,114 ..
  pub report_asked : (first last : ℕ) → (asked_by s ≡ done (range first last)) ↔ (TwoLines s first last × Between first last)
  report_asked = lines.asked_exactly s

  -- .. and all other bytes are refused, with 3
  pub report_refused : (k : ℕ) → (asked_by s ≡ refused k) ↔ ((k ≡ 3) × ((first last : ℕ) → TwoLines s first last → Between first last → ⊥))
  report_refused = lines.refused_exactly s

  -- bytes that settle it: whatever follows them, what is asked for and the text are the same
  pub report_settled : settled_by s ≡ true → (rest : List ℕ) → (asked_by (s ++ rest) ≡ asked_by s) × (answer_text (s ++ rest) ≡ answer_text s)
  unfolding answer_text
  report_settled e rest = let q = law.settled_stays s rest e in (q, ap text_of q)

  -- bytes that don't: they are fewer than ten, and go on to two lines of one to four digits with nothing behind them
  pub report_open : settled_by s ≡ false → Open s
  report_open = law.open_is s

  -- the text is the head, a line for each K and the totals where two lines ask for them, and else `refused 3`
  pub report_text_lem : ((first last : ℕ) → TwoLines s first last → Between first last
      → answer_text s ≡ head_text ++ (rows_text first (last + 1 - first) ++ total_text (totals first last)))
      × (((first last : ℕ) → TwoLines s first last → Between first last → ⊥) → answer_text s ≡ refused3)
  unfolding report_text
  report_text_lem = (answered.answer_report s, answered.answer_refused s)

-- a line is K, R, C, cells and padding, the lines of a range one for each K in turn, and the last line sizes, cells and padding, all in decimal ..
pub report_rows : ((f : Figures) → row_text f
    ≡ (decimal f.k ++ space)
    ++ ((decimal f.r ++ space) ++ ((decimal f.c ++ space) ++ ((decimal f.cells ++ space) ++ (decimal f.pads ++ end)))))
    × ((first : ℕ) → (rows_text first 0 ≡ []) × ((n : ℕ) → rows_text first (suc n) ≡ rows_text first n ++ row_text (figures (first + n))))
    × ((t : Totals) → total_text t
    ≡ total_word ++ ((decimal t.sizes ++ space) ++ ((decimal t.cells ++ space) ++ (decimal t.pads ++ end))))
report_rows = (spelled.row_is, spelled.rows_are, spelled.total_is)

-- .. which is digits that are the number, with no nought before them
pub report_decimal : (n : ℕ) → Digits (decimal n) × (decimal_from 0 (decimal n) ≡ n) × (0 < n → 48 < get_or (decimal n) 0 0)
report_decimal n = let s = spelled.spells n in (s.digits, s.decimal_is, s.no_nought)

-- "For 40 and 41 the whole output is four lines": `K R C cells pads`, `40 5 8 40 0`, `41 5 10 50 9`, `total 2 90 9`. The bytes: `40`, LF, `41`, LF
pub report_example : answer_text (52 ∷ 48 ∷ 10 ∷ 52 ∷ 49 ∷ 10 ∷ []) ≡ four_lines
report_example = answered.answer_two
