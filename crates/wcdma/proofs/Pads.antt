-- The padding: cells = K + padding, never more than 239 cells of it, and 239 at K 2281. Rests on Law; one computed test over the sizes.
use Rattle.std.specs.Prelude.{ℕ, ◌+◌, ◌-◌, ◌≤◌, Bool, true, ◌≡◌, refl, leb}
use Rattle.std.proofs.Common.{arith, leb-true}
use Rattle.laws.specs.Span.{span, at_number}
use Rattle.laws.specs.Cut.{kept_or_padding}
use Rattle.laws.specs.Once.{inside}
use Rattle.wcdma_shape.specs.Rectangle.{Size, rows, primes, first_prime, prime, cols_of, cols, cells}
use Rattle.wcdma.specs.Turbo.{address, addresses, pad_cells}
use Rattle.wcdma.proofs.Law.{as_many}

-- cells = K + padding
pub cells_are : (k : ℕ) → k ≤ 5114 → cells k ≡ k + pad_cells k
unfolding addresses pad_cells
cells_are k h = omega (arith, kept_or_padding (address k) (inside k) 0 (cells k), as_many k h)

few : ℕ → Bool
few k = leb (cells k - k) 239

few_tested : span few 40 5075 ≡ true
unfolding few rows primes first_prime prime cols_of cols cells
few_tested = refl

-- never more than 239
pub padding_few : (k : ℕ) → Size k → pad_cells k ≤ 239
unfolding few
padding_few k s =
    let lo = s.low in
    let hi = s.high in
    omega (arith, cells_are k hi, leb-true (cells k - k) 239 (at_number few 40 5075 few_tested k lo (omega arith)))

most_cells : cells 2281 ≡ 2520
unfolding rows primes first_prime prime cols_of cols cells
most_cells = refl

-- and 239 at K 2281
pub padding_most : pad_cells 2281 ≡ 239
padding_most = omega (arith, cells_are 2281 (omega arith), most_cells)
