-- The whole range, computed from the definitions: for 40 and 5,114 the totals are 5,075 sizes, 13,265,345 cells and 187,070 padding: the cells are the
-- sizes themselves, added up, and the padding. Rests on Sum and Report.
use Rattle.std.specs.Prelude.{◌+◌, ◌≡◌, refl}
use Rattle.std.proofs.Common.{arith}
use Rattle.wcdma_shape.specs.Rectangle.{rows, primes, first_prime, prime, cols_of, cols, cells}
use Rattle.wcdma.specs.Turbo.{pad_cells}
use Rattle.wcdma.proofs.Pads.{cells_are}
use Rattle.wcdma_report.specs.Sum.{sum, sum_adds}
use Rattle.wcdma_report.specs.Report.{totals}

all_cells : sum cells 40 5075 ≡ 13265345
unfolding sum rows primes first_prime prime cols_of cols cells
all_cells = refl

all_symbols : sum (λ k. k) 40 5075 ≡ 13078275
unfolding sum
all_symbols = refl

pub whole_range : totals 40 5114 ≡ record { sizes = 5075; cells = 13265345; pads = 187070 }
unfolding totals
whole_range =
    let a : sum cells 40 5075 ≡ sum (λ k. k) 40 5075 + sum pad_cells 40 5075 = sum_adds cells (λ k. k) pad_cells 40 5075 (λ k l h. cells_are k (omega arith)) in
    let p : sum pad_cells 40 5075 ≡ 187070 = omega (arith, all_cells, all_symbols, a) in
    rw (all_cells, p)
