-- The size that would have fitted, change request 8: the least listed N not below the one asked for, for that profile and those bits, or 0 if there is
-- none. Rests on Tests of crate sizes. These are definitions.
use Rattle.std.specs.Prelude.{ℕ, Bool, ◌&&◌, List, map, leb, eqb}
use Rattle.laws.specs.Least.{those, least}
use Rattle.sizes.specs.declared.Size.{Size}
use Rattle.sizes.specs.Tests.{listed_sizes}

-- the size y is of the profile and the bits of z
abbrev pub alike : Size → Size → Bool
alike z y = eqb y.profile z.profile && eqb y.bits z.bits

-- each N that is listed for that profile and those bits
unfoldable pub listed_for : Size → List ℕ
listed_for z = map (λ y. y.n) (those (alike z) listed_sizes)

-- the least of these that is not below its N. (Of no number the least is 0)
unfoldable pub fitting : Size → ℕ
fitting z = least (those (leb z.n) (listed_for z))
