-- The padding report, request 11: "exact figures for every K between" a first and a last, and the last line's "sizes, cells and padding". These are
-- definitions.
use Rattle.std.specs.Prelude.{ℕ, ◌+◌, ◌-◌, ◌≤◌, Bool, not, ◌&&◌, List, [], ◌∷◌, leb}
use Rattle.laws.specs.Outcome.{Outcome, Line, line, judged}
use Rattle.sets.specs.declared.Refusal.{Refusal}
use Rattle.sets.specs.declared.Set.{Set}
use Rattle.sets.specs.Set.{no_factors}
use Rattle.sets.specs.Verdict.{refusal}
use Rattle.wcdma_shape.specs.Rectangle.{within, rows, cols, cells}
use Rattle.wcdma.specs.Turbo.{pad_cells}
use Rattle.wcdma_report.specs.declared.Figures.{Figures}
use Rattle.wcdma_report.specs.declared.Totals.{Totals}
use Rattle.wcdma_report.specs.Sum.{sum}

-- K is 40 to 5,114
abbrev pub is_size : ℕ → Bool
is_size k = within 40 5114 k

-- a first and a last that are, and the first isn't above the last
abbrev pub is_range : ℕ → ℕ → Bool
is_range first last = is_size first && (is_size last && leb first last)

-- the set of profile 5 and size K
abbrev pub turbo_set : ℕ → Set
turbo_set k = record { profile = 5; bits = 1; n = k; stream = 1; factors = no_factors }

-- a line of the report: K, R, C, the cells of the rectangle, and how many of them are padding
unfoldable pub figures : ℕ → Figures
figures k = record { k = k; r = rows k; c = cols k; cells = cells k; pads = pad_cells k }

-- how many sizes there are from the first to the last
abbrev pub sizes_in : ℕ → ℕ → ℕ
sizes_in first last = last + 1 - first

-- the last line: the sizes, and the sums of their cells and of their padding
unfoldable pub totals : ℕ → ℕ → Totals
totals first last =
    let n = sizes_in first last in
    record { sizes = n; cells = sum cells first n; pads = sum pad_cells first n }

-- 3: K isn't 40 to 5,114
abbrev pub figures_lines : ℕ → List Line
figures_lines k = line 3 (not (is_size k)) ∷ []

unfoldable pub figures_of : ℕ → Outcome Refusal Figures
figures_of k = judged (refusal (turbo_set k)) (figures_lines k) (figures k)

-- 3: either isn't 40 to 5,114, or the first is above the last
abbrev pub totals_lines : ℕ → ℕ → List Line
totals_lines first last = line 3 (not (is_range first last)) ∷ []

unfoldable pub totals_of : ℕ → ℕ → Outcome ℕ Totals
totals_of first last = judged (λ k. k) (totals_lines first last) (totals first last)

-- 40 ≤ first ≤ last ≤ 5,114
pub record Between (first last : ℕ) : Type 0 where
  pub low : 40 ≤ first
  pub rising : first ≤ last
  pub high : last ≤ 5114
