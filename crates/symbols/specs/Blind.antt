-- No value decides anything: every entry changed by any function from any type to any other, the call moves the changed symbols the same way. (That
-- it answers the same is `blind_answer` of `tables`.)
use Rattle.std.specs.Prelude.{ℕ, zero, suc, ◌*◌, ◌≡◌, refl, length, take, drop}
use mathlib.Core.List.{List, [], ◌∷◌, map, map-append}
use Rattle.std.proofs.Common.{sym, ◌∙◌}
use Rattle.std.proofs.Math.Path.{ap, ap₂}
use Rattle.std.proofs.lemmas.List.{length-map}
use Rattle.laws.specs.declared.Way.{Way}
use Rattle.laws.specs.Outcome.{after, after_map}
use Rattle.sets.specs.declared.Set.{Set}
use Rattle.families.specs.Symbols.{symbols_of, block_l}
use Rattle.tables.specs.Answer.{block_lines}
use Rattle.movers.specs.Moves.{moved_by, moved_blind}
use Rattle.symbol_movers.specs.Groups.{groups, joined}
use Rattle.symbol_movers.specs.Grouped.{symbols_by}
use Rattle.symbols.specs.Answer.{moved_symbols}

module _ {A B : Type 0} (h : A → B) where
  map_take : (n : ℕ) (xs : List A) → take n (map h xs) ≡ map h (take n xs)
  map_take zero xs = refl
  map_take (suc n) [] = refl
  map_take (suc n) (x ∷ xs) = ap (λ (l : List B). h x ∷ l) (map_take n xs)

  map_drop : (n : ℕ) (xs : List A) → drop n (map h xs) ≡ map h (drop n xs)
  map_drop zero xs = refl
  map_drop (suc n) [] = refl
  map_drop (suc n) (x ∷ xs) = map_drop n xs

  -- groups of changed entries are the groups, changed
  map_groups : (w n : ℕ) (xs : List A) → groups w n (map h xs) ≡ map (map h) (groups w n xs)
  map_groups w zero xs = refl
  map_groups w (suc n) xs =
      ap₂ (λ (g : List B) (r : List B). g ∷ groups w n r) (map_take w xs) (map_drop w xs)
      ∙ ap (λ (r : List (List B)). map h (take w xs) ∷ r) (map_groups w n (drop w xs))

  map_joined : (gs : List (List A)) → joined (map (map h) gs) ≡ map h (joined gs)
  map_joined [] = refl
  map_joined (g ∷ gs) = rw (map_joined gs) (sym (map-append h g (joined gs)))

  pub blind : (way : Way) (s : Set) (w : ℕ) (src dst : List A) → moved_symbols way s w (map h src) (map h dst) ≡ map h (moved_symbols way s w src dst)
  unfolding moved_symbols
  blind way s w src dst =
      let gs = groups w (symbols_of s) src in
      let os = groups w (symbols_of s) dst in
      ap₂ (λ (i o : ℕ). after (block_lines s (symbols_of s * w) i o) (symbols_by way (block_l s) (symbols_of s) w (map h src) (map h dst)) (map h dst)) (length-map src h) (length-map dst h)
      ∙ ap (λ (l : List B). after (block_lines s (symbols_of s * w) (length src) (length dst)) l (map h dst))
      (ap₂ (λ (x y : List (List B)). joined (moved_by way (block_l s) (symbols_of s) [] x y)) (map_groups w (symbols_of s) src) (map_groups w (symbols_of s) dst)
      ∙ ap joined (moved_blind (map h) way (block_l s) (symbols_of s) [] gs os)
      ∙ map_joined (moved_by way (block_l s) (symbols_of s) [] gs os))
      ∙ after_map (map h) (block_lines s (symbols_of s * w) (length src) (length dst)) (symbols_by way (block_l s) (symbols_of s) w src dst) dst
