-- `totals_in` adds up what `figures_in` gives for each size.
use Prim.Native.Nat.{ℕ, ◌+◌, ◌<◌, ◌^◌}
use native.Mathlib.Omega.{arith}
use mathlib.Core.Path.{◌≡◌, ap}
use borrow.Author.Rules.{rules}
use Rattle.wcdma_shape.specs.Rectangle.{cells}
use Rattle.wcdma.specs.Turbo.{pad_cells}
use Rattle.wcdma_report.specs.declared.Figures.{Figures}
use Rattle.wcdma_report.specs.Report.{figures, Between}
use Rattle.wcdma_report.specs.Summing.{Summing, summing_none, summing_more, summing_done, size_here, cells_fit, pads_fit, sizes_few}
use Rattle.wcdma_report.proofs.totals_in.Goals as goal

-- the figures that are added are those of k
cells_here : {f : Figures} (k : ℕ) → f ≡ figures k → f.cells ≡ cells k
unfolding figures
cells_here k e = ap (λ (f : Figures). f.cells) e

pads_here : {f : Figures} (k : ℕ) → f ≡ figures k → f.pads ≡ pad_cells k
unfolding figures
pads_here k e = ap (λ (f : Figures). f.pads) e

next : {first last n c p k : ℕ} {f : Figures} → Between first last → Summing first last n c p k → k < last + 1 → f ≡ figures k
    → Summing first last (n + 1) (c + f.cells) (p + f.pads) (k + 1)
next b s t e = rw (cells_here _ e, pads_here _ e) (summing_more b s (omega arith))

-- and no sum leaves its width
few : {first last n c p k : ℕ} {f : Figures} → Between first last → Summing first last n c p k → k < last + 1 → f ≡ figures k
    → (n + 1 < 2 ^ 32) × (c + f.cells < 2 ^ 32) × (p + f.pads < 2 ^ 32)
few b s t e =
    let m = next b s t e in
    let n = sizes_few b m in
    (omega arith, omega (arith, cells_fit b m), omega (arith, pads_fit b m))

pub loop-k-init : goal.loop-k-init
loop-k-init c = summing_none c.requires

pub figures_in-f-requires : goal.figures_in-f-requires
figures_in-f-requires c = size_here c.requires c.loop-k.invariant (omega (arith, c.loop-k-test.true))

pub overflow_add-sizes : goal.overflow_add-sizes
overflow_add-sizes c = let h = few c.requires c.loop-k.invariant c.loop-k-test.true c.figures_in-f.ensures in search rules

pub overflow_add-cells : goal.overflow_add-cells
overflow_add-cells c = let h = few c.requires c.loop-k.invariant c.loop-k-test.true c.figures_in-f.ensures in search rules

pub overflow_add-pads : goal.overflow_add-pads
overflow_add-pads c = let h = few c.requires c.loop-k.invariant c.loop-k-test.true c.figures_in-f.ensures in search rules

pub loop-k-preserved : goal.loop-k-preserved
loop-k-preserved c = next c.requires c.loop-k.invariant c.loop-k-test.true c.figures_in-f.ensures

pub returns : goal.returns
returns c = summing_done c.requires c.loop-k.invariant (omega (arith, c.loop-k-test.false))
