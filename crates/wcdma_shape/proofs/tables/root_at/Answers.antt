-- The table of roots holds the least primitive root of each prime: one computed test over the table.
use Prim.Native.Nat.{◌<◌, ℕ}
use borrow.Author.Rules.{rules}
use borrow.Author.Tests.{eqb-true}
use lib.Dec.{eqb}
use lib.ListN.{get_or}
use mathlib.Core.Bool.{Bool, true}
use mathlib.Core.List.{List, [], ◌∷◌}
use mathlib.Core.Path.{◌≡◌, refl}
use native.Mathlib.Omega.{arith}
use Rattle.laws.specs.Span.{at_number, span}
use Rattle.wcdma_shape.specs.Powers.{first_one, generates, root, root_from}
use Rattle.wcdma_shape.specs.Rectangle.{primes}
use Rattle.wcdma_shape.proofs.tables.root_at.Goals as goal

roots : List ℕ
roots =
    3 ∷ 2 ∷ 2 ∷ 3 ∷ 2 ∷ 5 ∷ 2 ∷ 3 ∷ 2 ∷ 6 ∷ 3 ∷ 5 ∷ 2
    ∷ 2 ∷ 2 ∷ 2 ∷ 7 ∷ 5 ∷ 3 ∷ 2 ∷ 3 ∷ 5 ∷ 2 ∷ 5 ∷ 2 ∷ 6
    ∷ 3 ∷ 3 ∷ 2 ∷ 3 ∷ 2 ∷ 2 ∷ 6 ∷ 5 ∷ 2 ∷ 5 ∷ 2 ∷ 2 ∷ 2
    ∷ 19 ∷ 5 ∷ 2 ∷ 3 ∷ 2 ∷ 3 ∷ 2 ∷ 6 ∷ 3 ∷ 7 ∷ 7 ∷ 6 ∷ 3
    ∷ []

right : ℕ → Bool
right n = eqb (get_or roots n 0) (root (get_or primes n 0))

roots_right : span right 0 52 ≡ true
unfolding right roots primes root root_from generates first_one
roots_right = refl

roots_at : (n : ℕ) → n < 52 → get_or roots n 0 ≡ root (get_or primes n 0)
unfolding right
roots_at n h = eqb-true (get_or roots n 0) (root (get_or primes n 0)) (at_number right 0 52 roots_right n (omega arith) (omega arith))

pub returns : goal.returns
unfolding roots
returns c = roots_at c.args.n (search rules)
