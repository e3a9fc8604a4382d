-- `shape_of` is the shape of a size.
use Prim.Native.Nat.{ℕ}
use lib.ListN.{get_or}
use mathlib.Core.List.{List}
use mathlib.Core.Path.{◌∙◌, ◌≡◌, ap, refl}
use Rattle.wcdma_shape.specs.Post.{PlaceOf}
use Rattle.wcdma_shape.specs.Powers.{root}
use Rattle.wcdma_shape.specs.Rectangle.{primes, prime}
use Rattle.wcdma_shape.proofs.shape_of.Goals as goal

-- the prime that is read is p
prime_here : {k n p : ℕ} {list : List ℕ} → p ≡ get_or list n 0 → list ≡ primes → PlaceOf k n → p ≡ prime k
prime_here {k} {n} e t o = e ∙ ap (λ (l : List ℕ). get_or l n 0) t ∙ o.prime_is

pub returns : goal.returns
returns c = (
  refl,
  record {
    size = c.requires;
    rows_is = c.rows_of-r.ensures;
    prime_is = prime_here refl c.primes_table-list.ensures c.prime_place-n.ensures;
    cols_is = c.cols_of-c.ensures;
    root_is = c.root_at-v.ensures ∙ ap root c.prime_place-n.ensures.prime_is;
  },
)
