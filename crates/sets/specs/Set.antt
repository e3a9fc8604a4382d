-- The size of a set, its family, the numbers of its formulas, s, and its factors. Rests on crates profiles and sizes. These are definitions.
use Rattle.std.specs.Prelude.{ℕ, Bool, true, false}
use Rattle.sizes.specs.declared.Size.{Size}
use Rattle.profiles.specs.declared.Family.{Family}
use Rattle.profiles.specs.declared.Family.TheVariants.{Carrier, Spatial, Turbo, Quadratic, Coupled}
use Rattle.profiles.specs.declared.Numbers.{Numbers}
use Rattle.sizes.specs.Size.{size}
use Rattle.profiles.specs.Profiles.{family_by, numbers_by, group_by}
use Rattle.couples.specs.declared.Couples.{Couples}
use Rattle.sets.specs.declared.Factors.{Factors}
use Rattle.sets.specs.declared.Set.{Set}

abbrev pub size_of : Set → Size
size_of s = size s.profile s.bits s.n

unfoldable pub family_of : Set → Family
family_of s = family_by s.profile

-- it is the turbo interleaver's; it is that of spatial streams; it is the quadratic interleaver's; it is that of couples
abbrev pub is_turbo : Family → Bool
is_turbo Carrier = false
is_turbo Spatial = false
is_turbo Turbo = true
is_turbo Quadratic = false
is_turbo Coupled = false

abbrev pub is_spatial : Family → Bool
is_spatial Carrier = false
is_spatial Spatial = true
is_spatial Turbo = false
is_spatial Quadratic = false
is_spatial Coupled = false

abbrev pub is_quadratic : Family → Bool
is_quadratic Carrier = false
is_quadratic Spatial = false
is_quadratic Turbo = false
is_quadratic Quadratic = true
is_quadratic Coupled = false

abbrev pub is_coupled : Family → Bool
is_coupled Carrier = false
is_coupled Spatial = false
is_coupled Turbo = false
is_coupled Quadratic = false
is_coupled Coupled = true

-- d, r, and how many streams there are
unfoldable pub numbers_of : Set → Numbers
numbers_of s = numbers_by s.profile

abbrev pub rows_of : Set → ℕ
rows_of s = (numbers_of s).d

abbrev pub rotation_of : Set → ℕ
rotation_of s = (numbers_of s).r

-- s
unfoldable pub group_of : Set → ℕ
group_of s = group_by s.bits

-- f1 and f2 of the quadratic interleaver
abbrev pub f1 : Set → ℕ
f1 s = s.factors.first

abbrev pub f2 : Set → ℕ
f2 s = s.factors.second

-- N couples, and P0 to P3
abbrev pub couples_of : Set → Couples
couples_of s = record { n = s.n; p0 = s.factors.first; p1 = s.factors.second; p2 = s.factors.third; p3 = s.factors.fourth }

-- the factors of a profile that reads none
abbrev pub no_factors : Factors
no_factors = record { first = 0; second = 0; third = 0; fourth = 0 }
