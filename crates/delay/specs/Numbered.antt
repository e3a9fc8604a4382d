-- Bytes that may be equal, each with its number. Over bytes of any type.
use Rattle.std.specs.Prelude.{ℕ, suc, List, length, get_or}
use Rattle.laws.specs.Run.{run}

module _ {A : Type 0} (f : A) where
  -- byte a of xs with its number, counted from 1
  abbrev pub pair : List A → ℕ → ℕ × A
  pair xs a = (suc a, get_or xs a f)

  -- every byte with its number; the fill has the number 0
  abbrev pub numbered : List A → List (ℕ × A)
  numbered xs = run (pair xs) 0 (length xs)

  abbrev pub number : ℕ × A → ℕ
  number p = p.0

  abbrev pub byte_of : ℕ × A → A
  byte_of p = p.1
