-- What is listed: every size of the profiles; and the tests of a size, which are those of its profile's numbers. Rests on Size,
-- and on Profiles of crate profiles. These are definitions.
use Rattle.std.specs.Prelude.{Bool, List}
use Rattle.profiles.specs.Profiles.{profiles, number_listed, admitted_by, bits_in, size_by}
use Rattle.sizes.specs.declared.Size.{Size}
use Rattle.sizes.specs.Size.{all_sizes}

-- what is listed
unfoldable pub listed_sizes : List Size
listed_sizes = all_sizes profiles

-- the profile is listed
unfoldable pub profile_listed : Size → Bool
profile_listed z = number_listed z.profile

-- the bits are listed for the profile
unfoldable pub bits_listed : Size → Bool
bits_listed z = bits_in (admitted_by z.profile) z.bits

-- N is listed for the profile and the bits
unfoldable pub size_listed : Size → Bool
size_listed z = size_by (admitted_by z.profile) z.bits z.n
