-- The padding report, request 11: "exact figures for every K between", and totals that "are proved equal to sums over the definition". And the same
-- two calls for C.
use Rattle.std.specs.Prelude.{ℕ, ◌+◌, ◌*◌, ◌-◌, ◌≤◌, List, ◌↔◌, ◌≢◌, ◌≡◌, refl}
use Rattle.std.proofs.Common.{ap, ◌∙◌, arith}
use Rattle.laws.specs.Outcome.{done, refused, after, First}
use Rattle.laws.specs.Sentences.{FirstTrue}
use Rattle.sizes.specs.Size.{size}
use Rattle.sizes.specs.Tests.{size_listed}
use Rattle.sets.specs.Verdict.{refusal, refusal_number}
use Rattle.wcdma_shape.specs.Rectangle.{rows, cols, cells}
use Rattle.wcdma.specs.Turbo.{pad_cells}
use Rattle.wcdma.proofs.Pads.{cells_are}
use Rattle.wcdma_report.specs.Sum.{sum}
use Rattle.wcdma_report.specs.Report.{is_size, turbo_set, figures, totals, figures_lines, totals_lines, figures_of, totals_of}
use Rattle.wcdma_report.specs.Refusals.{figures_sentences, totals_sentences}
use Rattle.wcdma_report.specs.Refusals as law
use Rattle.wcdma_report.specs.Sized as sized
use Rattle.wcdma_report.specs.Whole as whole
use Rattle.flat.specs.Flat.{figures_list, totals_list, number_by, number_of, out_of}
use Rattle.tender.specs.Zero.{positive, zero_is_done, number_is_first, out_is_after}

-- a line of the report: K, R, C, cells and padding by their definitions, the cells being R-as-C and the padding what K leaves of them
pub report_figures : (k : ℕ) → 40 ≤ k → k ≤ 5114
    → (figures_of k ≡ done (record { k = k; r = rows k; c = cols k; cells = cells k; pads = pad_cells k }))
    × (cells k ≡ rows k * cols k)
    × (pad_cells k ≡ rows k * cols k - k)
unfolding figures cells
report_figures k low high =
    (law.figures_given (record { low = low; high = high }), refl, omega (arith, cells_are k high))

-- the last line: how many sizes there are, and the sums of their cells and of their padding
pub report_totals : (first last : ℕ) → 40 ≤ first → first ≤ last → last ≤ 5114
    → totals_of first last
    ≡ done (record {
      sizes = last + 1 - first;
      cells = sum cells first (last + 1 - first);
      pads = sum pad_cells first (last + 1 - first);
    })
unfolding totals
report_totals first last low rising high = law.totals_given (record { low = low; rising = rising; high = high })

-- for 40 and 5,114 they are 5,075 sizes, 13,265,345 cells and 187,070 padding
pub report_whole : totals_of 40 5114 ≡ done (record { sizes = 5075; cells = 13265345; pads = 187070 })
report_whole = law.totals_given (record { low = omega arith; rising = omega arith; high = omega arith }) ∙ ap done whole.whole_range

-- refused with 3: figures exactly when K isn't 40 to 5,114, totals exactly when 40 ≤ first ≤ last ≤ 5,114 doesn't hold
pub refusal_order_report :
    ((k j : ℕ) → (figures_of k ≡ refused (refusal (turbo_set k) j)) ↔ FirstTrue (figures_sentences k) j)
    × ((first last j : ℕ) → (totals_of first last ≡ refused j) ↔ FirstTrue (totals_sentences first last) j)
refusal_order_report = (law.refusal_order_figures, law.refusal_order_totals)

-- 40 to 5,114 are the sizes that profile 5 lists
pub report_sizes : (k : ℕ) → is_size k ≡ size_listed (size 5 1 k)
report_sizes = sized.listed_is

-- the calls for C: 0 exactly when they are done, 3 exactly when their line applies, and numbers that a refused call leaves as they were
pub figures_zero : (k : ℕ) → (number_of (figures_of k) ≡ 0) ↔ (figures_of k ≡ done (figures k))
unfolding figures_of
figures_zero k = zero_is_done (λ x. x.number) (refusal (turbo_set k)) (refusal_number (turbo_set k)) (figures_lines k) (figures k) (positive 2, tt)

pub figures_first : (k j : ℕ) → j ≢ 0 → (number_of (figures_of k) ≡ j) ↔ First (figures_lines k) j
unfolding figures_of
figures_first k j p = number_is_first (λ x. x.number) (refusal (turbo_set k)) (refusal_number (turbo_set k)) (figures_lines k) (figures k) (positive 2, tt) j p

pub figures_out : (k : ℕ) (old : List ℕ) → out_of (figures_of k) figures_list old ≡ after (figures_lines k) (figures_list (figures k)) old
unfolding figures_of
figures_out k old = out_is_after (refusal (turbo_set k)) (figures_lines k) (figures k) figures_list old

module _ (first last : ℕ) where
  pub totals_zero : (number_by (λ (n : ℕ). n) (totals_of first last) ≡ 0) ↔ (totals_of first last ≡ done (totals first last))
  unfolding totals_of
  totals_zero = zero_is_done (λ n. n) (λ n. n) (λ n. refl) (totals_lines first last) (totals first last) (positive 2, tt)

  pub totals_first : (j : ℕ) → j ≢ 0 → (number_by (λ (n : ℕ). n) (totals_of first last) ≡ j) ↔ First (totals_lines first last) j
  unfolding totals_of
  totals_first j p = number_is_first (λ n. n) (λ n. n) (λ n. refl) (totals_lines first last) (totals first last) (positive 2, tt) j p

  pub totals_out : (old : List ℕ) → out_of (totals_of first last) totals_list old ≡ after (totals_lines first last) (totals_list (totals first last)) old
  unfolding totals_of
  totals_out old = out_is_after (λ n. n) (totals_lines first last) (totals first last) totals_list old
