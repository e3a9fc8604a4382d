-- How far apart two places lie, bytes that can be told apart, and a byte that stands at one place alone. Over bytes of any type.
use Prim.Native.Nat.{ℕ, ◌+◌, ◌-◌, ◌<◌}
use Rattle.std.specs.Prelude.{◌≡◌, ◌≢◌, List, length, get_or}

-- how many places two lie apart
abbrev pub distance : ℕ → ℕ → ℕ
distance u v = u - v + (v - u)

module _ {A : Type 0} (f : A) where
  -- bytes that can be told apart: none is the fill, and no two are equal
  pub record Labels (xs : List A) : Type 0 where
    pub not_fill : (a : ℕ) → a < length xs → get_or xs a f ≢ f
    pub own : (a c : ℕ) → a < length xs → c < length xs → get_or xs a f ≡ get_or xs c f → a ≡ c

  -- x stands at place u of ys, and nowhere else
  pub record Only (ys : List A) (u : ℕ) (x : A) : Type 0 where
    pub within : u < length ys
    pub there : get_or ys u f ≡ x
    pub nowhere_else : (w : ℕ) → w < length ys → get_or ys w f ≡ x → w ≡ u
