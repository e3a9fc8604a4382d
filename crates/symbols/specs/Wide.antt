-- n groups that have w entries each: what a list of n · w entries is cut into, what is gathered from such groups, and what can be joined and cut
-- again. Over any element. Rests on Groups of crate symbol_movers.
use Rattle.std.specs.Prelude.{ℕ, zero, suc, ◌*◌, ◌<◌, List, [], ◌∷◌, ◌≡◌, refl, length, get_or, drop}
use Rattle.std.proofs.Common.{sym, ap, ap₂, ◌∙◌, zero-mul, suc-mul, arith, length-append, length-drop, length-take-le, take_at, drop_at}
use Rattle.laws.specs.Move.{gather, length_gather, get_or_gather}
use Rattle.symbol_movers.specs.Groups.{groups, joined, length_groups, get_or_groups, group_fits}

module _ {A : Type 0} where
  pub record Wide (w n : ℕ) (gs : List (List A)) : Type 0 where
    pub count : length gs ≡ n
    pub each : (k : ℕ) → k < n → length (get_or gs k []) ≡ w

  pub wide_groups : (w n : ℕ) (xs : List A) → length xs ≡ n * w → Wide w n (groups w n xs)
  wide_groups w n xs e = record {
    count = length_groups w n xs;
    each = λ k h. rw (get_or_groups w n xs k h) (length-take-le w (drop (k * w) xs) (omega (arith, group_fits w n k h, length-drop (k * w) xs)));
  }

  pub wide_gather : {w n : ℕ} {gs : List (List A)} (f : ℕ → ℕ) → ((t : ℕ) → t < n → f t < n) → Wide w n gs → Wide w n (gather f n [] gs)
  wide_gather {w} {n} {gs} f below g = record {
    count = length_gather f n [] gs;
    each = λ k h. rw (get_or_gather f n [] gs k h) (g.each (f k) (below k h));
  }

  rest : {w n : ℕ} {g : List A} {gs : List (List A)} → Wide w (suc n) (g ∷ gs) → Wide w n gs
  rest g = record { count = omega (arith, g.count); each = λ k h. g.each (suc k) (omega arith) }

  -- joined, they are n · w entries ..
  pub length_joined : (w n : ℕ) (gs : List (List A)) → Wide w n gs → length (joined gs) ≡ n * w
  length_joined w zero [] g = sym (zero-mul w)
  length_joined w zero (x ∷ xs) g = absurd (omega (arith, g.count))
  length_joined w (suc n) [] g = absurd (omega (arith, g.count))
  length_joined w (suc n) (x ∷ xs) g =
      omega (arith, length-append x (joined xs), g.each 0 (omega arith), length_joined w n xs (rest g), suc-mul n w)

  -- .. and cut again, the same groups
  pub groups_joined : (w n : ℕ) (gs : List (List A)) → Wide w n gs → groups w n (joined gs) ≡ gs
  groups_joined w zero [] g = refl
  groups_joined w zero (x ∷ xs) g = absurd (omega (arith, g.count))
  groups_joined w (suc n) [] g = absurd (omega (arith, g.count))
  groups_joined w (suc n) (x ∷ xs) g =
      let e = g.each 0 (omega arith) in
      ap₂ (λ (f : List A) (r : List A). f ∷ groups w n r) (take_at x (joined xs) w e) (drop_at x (joined xs) w e)
      ∙ ap (λ (r : List (List A)). x ∷ r) (groups_joined w n xs (rest g))
