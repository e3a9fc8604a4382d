-- Numbers in bytes, big end first: of 4 bytes, as headers have them, and of 2, as addresses are. These are definitions.
use Rattle.std.specs.Prelude.{ℕ, ◌+◌, ◌*◌, ◌/◌, ◌%◌, List, [], ◌∷◌, get_or}

-- the byte at a place, 0 past the end
abbrev pub byte_at : List ℕ → ℕ → ℕ
byte_at f at = get_or f at 0

-- the number whose first byte is at a place: of 4 bytes, and of 2
unfoldable pub number_at : List ℕ → ℕ → ℕ
number_at f at = ((byte_at f at * 256 + byte_at f (at + 1)) * 256 + byte_at f (at + 2)) * 256 + byte_at f (at + 3)

unfoldable pub pair_at : List ℕ → ℕ → ℕ
pair_at f at = byte_at f at * 256 + byte_at f (at + 1)

-- a number's bytes: 4, and 2
abbrev pub number_bytes : ℕ → List ℕ
number_bytes v = v / 16777216 % 256 ∷ v / 65536 % 256 ∷ v / 256 % 256 ∷ v % 256 ∷ []

abbrev pub pair_bytes : ℕ → List ℕ
pair_bytes v = v / 256 % 256 ∷ v % 256 ∷ []
