-- An entry of a table of profiles: what a profile is in numbers, and what it admits, counted out in rows, one for each of its bits, with the N that go
-- with them. Over any table; specs/Profiles.antt has the one of document 01 and of requests 4, 6 and 12.
use Rattle.std.specs.Prelude.{◌≡◌, refl, Bool, true, false, ℕ, ◌+◌, ◌*◌}
use Rattle.std.proofs.lemmas.Bool.{false≢true}
use mathlib.Core.List.{List, [], ◌∷◌, Memᴰ}
use Rattle.laws.specs.Run.{run}
use Rattle.profiles.specs.declared.Family.{Family}
use Rattle.profiles.specs.declared.Numbers.{Numbers}
use Rattle.profiles.specs.declared.Bits.{Bits}
use Rattle.profiles.specs.declared.Form.{Form}
use Rattle.profiles.specs.declared.Admitted.{Admitted}

-- a row of a profile: bits per carrier, and the sizes N with them
pub record Row : Type 0 where
  pub bits : ℕ
  pub sizes : List ℕ

abbrev pub row : ℕ → List ℕ → Row
row b ns = record { bits = b; sizes = ns }

-- an entry of a table: a profile's number, its family and the numbers of its formulas, what it admits, in numbers, and the same counted out
pub record Entry : Type 0 where
  pub number : ℕ
  pub family : Family
  pub numbers : Numbers
  pub admitted : Admitted
  pub rows : List Row

abbrev pub numbers : ℕ → ℕ → ℕ → Numbers
numbers d r i = record { d = d; r = r; streams = i }

abbrev pub admitted : Bits → Form → ℕ → ℕ → Admitted
admitted b f u m = record { bits = b; form = f; unit = u; limit = m }

-- u, 2u, 3u, .., m of them
abbrev pub multiples : ℕ → ℕ → List ℕ
multiples u m = run (λ j. u * j) 1 m

-- a, a + u, a + 2u, .., m of them
abbrev pub onwards : ℕ → ℕ → ℕ → List ℕ
onwards a u m = run (λ j. a + u * j) 0 m

-- some number stands in a list, as a test
abbrev pub some : List ℕ → Bool
some [] = false
some (n ∷ ns) = true

pub some_of : (ns : List ℕ) → some ns ≡ true → (n : ℕ) × Memᴰ n ns
some_of [] e = absurd (false≢true e)
some_of (n ∷ ns) e = (n, Memᴰ.head refl)
