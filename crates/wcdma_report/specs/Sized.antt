-- K that is 40 to 5,114: as a test, as a fact, and as the sizes that profile 5 lists. Rests on Report.
use Rattle.std.specs.Prelude.{ℕ, true, ◌&&◌, ◌≡◌, refl, leb}
use Rattle.std.proofs.Common.{arith, le-leb, leb-true}
use Rattle.laws.specs.Members.{both}
use Rattle.profiles.specs.Profiles.{entry_by}
use Rattle.sizes.specs.Size.{size}
use Rattle.sizes.specs.Tests.{size_listed}
use Rattle.wcdma_shape.specs.Rectangle.{Size}
use Rattle.wcdma_shape.specs.Shape.{within_low, within_high}
use Rattle.wcdma_report.specs.Report.{is_size, is_range, Between}

pub is_size_lem : (k : ℕ) → is_size k ≡ true → Size k
is_size_lem k e = record { low = within_low 40 5114 k e; high = within_high 40 5114 k e }

pub size_is : (k : ℕ) → Size k → is_size k ≡ true
size_is k s = rw (le-leb 40 k s.low, le-leb k 5114 s.high)

pub listed_is : (k : ℕ) → is_size k ≡ size_listed (size 5 1 k)
unfolding size_listed entry_by
listed_is k = refl

pub is_range_lem : (first last : ℕ) → is_range first last ≡ true → Between first last
is_range_lem first last e =
    let a = both (is_size first) (is_size last && leb first last) e in
    let b = both (is_size last) (leb first last) a.1 in
    record { low = (is_size_lem first a.0).low; rising = leb-true first last b.1; high = (is_size_lem last b.0).high }

module _ {first last : ℕ} (b : Between first last) where
  pub first_size : Size first
  first_size = record { low = b.low; high = omega (arith, b.rising, b.high) }

  pub last_size : Size last
  last_size = record { low = omega (arith, b.low, b.rising); high = b.high }

  pub range_is : is_range first last ≡ true
  range_is = rw (size_is first first_size, size_is last last_size) (le-leb first last b.rising)
