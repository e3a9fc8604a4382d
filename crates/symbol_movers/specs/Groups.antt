-- A list as groups of w entries, one after the other, and groups joined to a list again. Over any element.
use Rattle.std.specs.Prelude.{ℕ, zero, suc, ◌+◌, ◌*◌, ◌≤◌, ◌<◌, List, [], ◌∷◌, ◌++◌, ◌≡◌, refl, length, get_or, set, take, drop}
use Rattle.std.proofs.Common.{append_assoc, sym, ap, ap₂, ◌∙◌, zero-add, zero-mul, suc-mul, mul-le-mul_right, le_of_suc-le-suc, not-suc-le-zero, arith, length-drop, take-append-drop, length-take-le, take_at, drop_at, drop-drop, take-add}
use Rattle.std.proofs.Math.Seq.{paste}

-- group k of n ends inside n · w entries
pub group_fits : (w n k : ℕ) → k < n → k * w + w ≤ n * w
group_fits w n k h = omega (arith, mul-le-mul_right w h, suc-mul k w)

module _ {A : Type 0} where
  -- the first n groups of w entries
  abbrev pub groups : ℕ → ℕ → List A → List (List A)
  groups w zero xs = []
  groups w (suc n) xs = take w xs ∷ groups w n (drop w xs)

  -- the groups one after the other
  abbrev pub joined : List (List A) → List A
  joined [] = []
  joined (g ∷ gs) = g ++ joined gs

  pub length_groups : (w n : ℕ) (xs : List A) → length (groups w n xs) ≡ n
  length_groups w zero xs = refl
  length_groups w (suc n) xs = ap suc (length_groups w n (drop w xs))

  module _ (w n : ℕ) (xs : List A) (e : length xs ≡ suc n * w) where
    length_group : length (take w xs) ≡ w
    length_group = length-take-le w xs (omega (arith, e ∙ suc-mul n w))

    length_rest : length (drop w xs) ≡ n * w
    length_rest = omega (arith, length-drop w xs, e ∙ suc-mul n w)

  -- a list of n · w entries is its groups, joined
  pub joined_groups : (w n : ℕ) (xs : List A) → length xs ≡ n * w → joined (groups w n xs) ≡ xs
  joined_groups w zero [] e = refl
  joined_groups w zero (x ∷ xs) e = let z : suc (length xs) ≡ 0 = e ∙ zero-mul w in absurd (omega arith)
  joined_groups w (suc n) xs e = ap (λ (l : List A). take w xs ++ l) (joined_groups w n (drop w xs) (length_rest w n xs e)) ∙ take-append-drop w xs

  -- group k begins at k · w
  pub get_or_groups : (w n : ℕ) (xs : List A) (k : ℕ) → k < n → get_or (groups w n xs) k [] ≡ take w (drop (k * w) xs)
  get_or_groups w zero xs k h = absurd (not-suc-le-zero h)
  get_or_groups w (suc n) xs zero h = ap (λ (a : ℕ). take w (drop a xs)) (sym (zero-mul w))
  get_or_groups w (suc n) xs (suc k) h =
      get_or_groups w n (drop w xs) k (le_of_suc-le-suc h)
      ∙ ap (take w) (drop-drop (k * w) w xs)
      ∙ ap (λ (a : ℕ). take w (drop a xs)) (let z : w + k * w ≡ suc k * w = omega (arith, suc-mul k w) in z)

  -- w entries copied to k · w are a group put at place k
  paste_behind : (w k : ℕ) (xs v : List A) → paste xs (suc k * w) v w ≡ take w xs ++ paste (drop w xs) (k * w) v w
  paste_behind w k xs v =
      ap (λ (a : ℕ). paste xs a v w) (let z : suc k * w ≡ w + k * w = omega (arith, suc-mul k w) in z)
      ∙ ap₂ (λ (f r : List A). f ++ take w v ++ r) (take-add w (k * w) xs)
      (ap (λ (a : ℕ). drop a xs) (let z : w + k * w + w ≡ w + (k * w + w) = omega arith in z) ∙ sym (drop-drop (k * w + w) w xs))
      ∙ simp append_assoc

  groups_paste : (w n : ℕ) (xs v : List A) (k : ℕ) → length xs ≡ n * w → w ≤ length v → k < n → groups w n (paste xs (k * w) v w) ≡ set (groups w n xs) k (take w v)
  groups_paste w zero xs v k e l h = absurd (not-suc-le-zero h)
  groups_paste w (suc n) xs v zero e l h =
      ap (λ (a : ℕ). groups w (suc n) (paste xs a v w)) (zero-mul w)
      ∙ ap₂ (λ (g : List A) (r : List A). g ∷ groups w n r) (take_at (take w v) (drop (0 + w) xs) w (length-take-le w v l))
      (drop_at (take w v) (drop (0 + w) xs) w (length-take-le w v l) ∙ ap (λ (a : ℕ). drop a xs) (zero-add w))
  groups_paste w (suc n) xs v (suc k) e l h =
      let rest = paste (drop w xs) (k * w) v w in
      ap (groups w (suc n)) (paste_behind w k xs v)
      ∙ ap₂ (λ (g : List A) (r : List A). g ∷ groups w n r) (take_at (take w xs) rest w (length_group w n xs e)) (drop_at (take w xs) rest w (length_group w n xs e))
      ∙ ap (λ (r : List (List A)). take w xs ∷ r) (groups_paste w n (drop w xs) v k (length_rest w n xs e) l (le_of_suc-le-suc h))

  -- so to copy w entries from j · w to k · w is to put group j at place k
  pub group_moved : (w n : ℕ) (src dst : List A) (j k : ℕ) → length src ≡ n * w → length dst ≡ n * w → j < n → k < n
      → groups w n (paste dst (k * w) (drop (j * w) src) w) ≡ set (groups w n dst) k (get_or (groups w n src) j [])
  group_moved w n src dst j k e f h l =
      groups_paste w n dst (drop (j * w) src) k f (omega (arith, group_fits w n j h, length-drop (j * w) src)) l
      ∙ ap (set (groups w n dst) k) (sym (get_or_groups w n src j h))
