-- What the bytes of standard input give, in plain words, and the request's example to the letter. Rests on Text, and on Exactly of crate report_asked.
use Rattle.std.specs.Prelude.{ℕ, List, [], ◌∷◌, ◌++◌, ◌≡◌, refl}
use Rattle.std.proofs.Common.{sym, ap, arith}
use Rattle.numbers.specs.Decimal.{digit_of, read_from, said_by}
use Rattle.words.specs.Puts.{decimal, decimal_in}
use Rattle.wcdma_shape.specs.Rectangle.{rows, primes, first_prime, prime, cols_of, cols, cells}
use Rattle.wcdma.specs.Turbo.{pad_cells}
use Rattle.wcdma_report.specs.declared.Figures.{Figures}
use Rattle.wcdma_report.specs.Sum.{sum}
use Rattle.wcdma_report.specs.Report.{figures, totals, Between}
use Rattle.wcdma_report.specs.Figured.{figures_are}
use Rattle.report_asked.specs.Lines.{line_of, ended, behind, number_in}
use Rattle.report_asked.specs.Asked.{range_of, asked_by}
use Rattle.report_asked.specs.Exactly.{TwoLines, asked_exactly, refused_exactly}
use Rattle.report_pages.specs.Text.{head_text, field_text, row_text, rows_text, total_text, report_text, refusal_text, answer_text}

-- "refused 3" and a line's end
unfoldable pub refused3 : List ℕ
refused3 = 114 ∷ 101 ∷ 102 ∷ 117 ∷ 115 ∷ 101 ∷ 100 ∷ 32 ∷ 51 ∷ 10 ∷ []

module _ (s : List ℕ) where
  pub answer_report : (first last : ℕ) → TwoLines s first last → Between first last → answer_text s ≡ report_text first last
  unfolding answer_text
  answer_report first last t b = rw ((asked_exactly s first last).1 (t, b))

  pub answer_refused : ((first last : ℕ) → TwoLines s first last → Between first last → ⊥) → answer_text s ≡ refused3
  unfolding answer_text refusal_text field_text decimal decimal_in refused3
  answer_refused h = rw ((refused_exactly s 3).1 (refl, h))

-- "For 40 and 41 the whole output is four lines": `K R C cells pads`, `40 5 8 40 0`, `41 5 10 50 9`, `total 2 90 9`
unfoldable pub four_lines : List ℕ
four_lines =
    75 ∷ 32 ∷ 82 ∷ 32 ∷ 67 ∷ 32 ∷ 99 ∷ 101 ∷ 108 ∷ 108 ∷ 115 ∷ 32 ∷ 112 ∷ 97 ∷ 100 ∷ 115 ∷ 10
    ∷ 52 ∷ 48 ∷ 32 ∷ 53 ∷ 32 ∷ 56 ∷ 32 ∷ 52 ∷ 48 ∷ 32 ∷ 48 ∷ 10
    ∷ 52 ∷ 49 ∷ 32 ∷ 53 ∷ 32 ∷ 49 ∷ 48 ∷ 32 ∷ 53 ∷ 48 ∷ 32 ∷ 57 ∷ 10
    ∷ 116 ∷ 111 ∷ 116 ∷ 97 ∷ 108 ∷ 32 ∷ 50 ∷ 32 ∷ 57 ∷ 48 ∷ 32 ∷ 57 ∷ 10 ∷ []

figures_40 : figures 40 ≡ record { k = 40; r = 5; c = 8; cells = 40; pads = 0 }
unfolding rows primes first_prime prime cols_of cols
figures_40 = sym (figures_are (record { low = omega arith; high = omega arith }) refl refl)

figures_41 : figures 41 ≡ record { k = 41; r = 5; c = 10; cells = 50; pads = 9 }
unfolding rows primes first_prime prime cols_of cols
figures_41 = sym (figures_are (record { low = omega arith; high = omega arith }) refl refl)

totals_two : totals 40 41 ≡ record { sizes = 2; cells = 90; pads = 9 }
unfolding totals sum figures
totals_two =
    let a : pad_cells 40 ≡ 0 = ap (λ (f : Figures). f.pads) figures_40 in
    let b : pad_cells 41 ≡ 9 = ap (λ (f : Figures). f.pads) figures_41 in
    let c : cells 40 ≡ 40 = ap (λ (f : Figures). f.cells) figures_40 in
    let d : cells 41 ≡ 50 = ap (λ (f : Figures). f.cells) figures_41 in
    rw (a, b, c, d)

rows_two : rows_text 40 2 ≡ row_text (figures 40) ++ row_text (figures 41)
unfolding rows_text
rows_two = refl

report_two : report_text 40 41 ≡ four_lines
unfolding report_text head_text row_text total_text field_text decimal decimal_in four_lines
report_two = rw (rows_two, totals_two, figures_40, figures_41)

-- the bytes `40`, LF, `41`, LF
pub answer_two : answer_text (52 ∷ 48 ∷ 10 ∷ 52 ∷ 49 ∷ 10 ∷ []) ≡ four_lines
unfolding answer_text asked_by range_of ended line_of behind number_in said_by read_from digit_of
answer_two = report_two
