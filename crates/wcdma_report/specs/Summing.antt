-- The loop that adds the figures up: so many sizes from the first on are in, and no sum of theirs leaves its width. Rests on Sum and Report.
use Rattle.std.specs.Prelude.{ℕ, ◌+◌, ◌*◌, ◌-◌, ◌≤◌, ◌<◌, ◌≡◌}
use Rattle.std.proofs.Common.{sym, add-one, arith}
use Rattle.wcdma_shape.specs.Rectangle.{Size, cells}
use Rattle.wcdma_shape.specs.Shape.{cells_le}
use Rattle.wcdma.specs.Turbo.{pad_cells}
use Rattle.wcdma.proofs.Pads.{cells_are}
use Rattle.wcdma_report.specs.Sum.{sum, sum_none, sum_more, sum_le}
use Rattle.wcdma_report.specs.Report.{Between, totals}

pub record Summing (first last sizes sumCells sumPads k : ℕ) : Type 0 where
  pub here : k ≡ first + sizes
  pub over : k ≤ last + 1
  pub cells_in : sumCells ≡ sum cells first sizes
  pub pads_in : sumPads ≡ sum pad_cells first sizes

module _ {first last : ℕ} (b : Between first last) where
  pub summing_none : Summing first last 0 0 0 first
  summing_none =
      let r = b.rising in
      record { here = omega arith; over = omega arith; cells_in = sum_none cells first; pads_in = sum_none pad_cells first }

  module _ {sizes sumCells sumPads k : ℕ} (s : Summing first last sizes sumCells sumPads k) where
    pub size_here : k ≤ last → Size k
    size_here h = record { low = omega (arith, b.low, s.here); high = omega (arith, b.high) }

    pub cells_fit : sumCells ≤ sizes * 5160
    cells_fit = omega (arith, s.cells_in, sum_le cells 5160 first sizes (λ k l m. cells_le k))

    pub pads_fit : sumPads ≤ sizes * 5160
    pads_fit =
        omega (
          arith,
          s.pads_in,
          sum_le pad_cells 5160 first sizes (λ k l m. omega (arith, cells_le k, cells_are k (omega (arith, b.high, s.here, s.over)))),
        )

    pub sizes_few : sizes ≤ 5075
    sizes_few = omega (arith, b.low, b.high, s.here, s.over)

    pub summing_more : k ≤ last → Summing first last (sizes + 1) (sumCells + cells k) (sumPads + pad_cells k) (k + 1)
    summing_more h =
        record {
          here = omega (arith, s.here);
          over = omega arith;
          cells_in = added cells s.cells_in;
          pads_in = added pad_cells s.pads_in;
        }
      where
        added : (f : ℕ → ℕ) {x : ℕ} → x ≡ sum f first sizes → x + f k ≡ sum f first (sizes + 1)
        added f e = rw (e, s.here, add-one sizes) (sym (sum_more f first sizes))

    pub summing_done : last < k → record { sizes = sizes; cells = sumCells; pads = sumPads } ≡ totals first last
    unfolding totals
    summing_done h =
        let n : sizes ≡ last + 1 - first = omega (arith, s.here, s.over) in
        rw (s.cells_in, s.pads_in, n)
