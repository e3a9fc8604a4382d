-- A list that a loop fills entry by entry: what its entries below i are, and after one more store.
use Rattle.std.specs.Prelude.{ℕ, ◌+◌, ◌<◌, List, ◌≡◌, length, get_or, set}
use Rattle.std.proofs.Common.{⊎_elim, ◌∙◌, eq-or-lt_of_le, arith, get_or-set_same, get_or-set_other}

-- a list that holds f below i, with f i put at i, holds f below i + 1
pub fill_more : (f : ℕ → ℕ) (s : List ℕ) (i v : ℕ) → i < length s → v ≡ f i → ((y : ℕ) → y < i → get_or s y 0 ≡ f y)
    → (y : ℕ) → y < i + 1 → get_or (set s i v) y 0 ≡ f y
fill_more f s i v h e g y l =
    ⊎_elim (λ (q : y ≡ i). rw q (get_or-set_same s i v 0 h ∙ e)) (λ q. get_or-set_other s i y v 0 (λ w. omega arith) ∙ g y q)
    (eq-or-lt_of_le {n = y} {m = i} (omega arith))
