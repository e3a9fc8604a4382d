-- No value decides a place: to change every symbol and then move is to move and then change. Over any elements. Rests on Move.
use Rattle.std.specs.Prelude.{◌≡◌, refl, List, [], ◌∷◌, map, ℕ, zero, suc, set}
use Rattle.std.proofs.Math.Path.{sym}
use Rattle.std.proofs.Common.{ap, ◌∙◌}
use Rattle.std.proofs.Math.ListN.{get_or, get_or-map}
use Rattle.laws.specs.Run.{run, run_same}
use Rattle.laws.specs.Move.{gather, scatter}

module _ {A B : Type 0} (h : A → B) where
  pub map_run : (f : ℕ → A) (a n : ℕ) → map h (run f a n) ≡ run (λ t. h (f t)) a n
  map_run f a zero = refl
  map_run f a (suc n) = ap (λ (l : List B). h (f a) ∷ l) (map_run f (suc a) n)

  pub map_set : (xs : List A) (i : ℕ) (v : A) → map h (set xs i v) ≡ set (map h xs) i (h v)
  map_set [] i v = refl
  map_set (x ∷ xs) zero v = refl
  map_set (x ∷ xs) (suc i) v = ap (λ (l : List B). h x ∷ l) (map_set xs i v)

  pub gather_blind : (f : ℕ → ℕ) (n : ℕ) (z : A) (xs : List A) → gather f n (h z) (map h xs) ≡ map h (gather f n z xs)
  unfolding gather
  gather_blind f n z xs =
      run_same (λ t. get_or (map h xs) (f t) (h z)) (λ t. h (get_or xs (f t) z)) 0 n (λ t l. get_or-map h xs (f t) z)
      ∙ sym (map_run (λ t. get_or xs (f t) z) 0 n)

  pub scatter_blind : (f : ℕ → ℕ) (n : ℕ) (z : A) (xs out : List A) → scatter f n (h z) (map h xs) (map h out) ≡ map h (scatter f n z xs out)
  scatter_blind f zero z xs out = refl
  scatter_blind f (suc n) z xs out =
      ap (λ (l : List B). set l (f n) (get_or (map h xs) n (h z))) (scatter_blind f n z xs out)
      ∙ ap (λ (v : B). set (map h (scatter f n z xs out)) (f n) v) (get_or-map h xs n z)
      ∙ sym (map_set (scatter f n z xs out) (f n) (get_or xs n z))
