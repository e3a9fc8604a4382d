-- A line of the report from R and C: its cells are R-as-C, and its padding is what K leaves of them. Rests on Report.
use Rattle.std.specs.Prelude.{ℕ, ◌*◌, ◌-◌, ◌≤◌, ◌≡◌}
use Rattle.std.proofs.Math.Path.{ap₂}
use Rattle.std.proofs.Common.{arith}
use Rattle.wcdma_shape.specs.Rectangle.{Size, rows, cols, cells}
use Rattle.wcdma_shape.specs.Shape.{rows_le, cols_high, prime_small, product_small, fits}
use Rattle.wcdma.specs.Turbo.{pad_cells}
use Rattle.wcdma.proofs.Pads.{cells_are}
use Rattle.wcdma_report.specs.Report.{figures}

module _ {k r c : ℕ} (s : Size k) (er : r ≡ rows k) (ec : c ≡ cols k) where
  pub cells_is : r * c ≡ cells k
  unfolding cells
  cells_is = ap₂ (λ (x y : ℕ). x * y) er ec

  pub rows_few : r ≤ 20
  rows_few = omega (arith, er, rows_le k)

  pub cols_few : c ≤ 258
  cols_few = omega (arith, ec, cols_high k, prime_small k)

  pub cells_few : r * c ≤ 5160
  cells_few = product_small rows_few cols_few

  pub symbols_fit : k ≤ r * c
  symbols_fit = omega (arith, cells_is, fits k s.high)

  pub figures_are : record { k = k; r = r; c = c; cells = r * c; pads = r * c - k } ≡ figures k
  unfolding figures
  figures_are =
      let p : r * c - k ≡ pad_cells k = omega (arith, cells_is, cells_are k s.high) in
      rw (p, cells_is, er, ec)
