-- A part of a list: n entries from a place on. What a run of stores leaves of it, where the stores lie before it, behind it or in it. Over any element.
use Rattle.std.specs.Prelude.{ℕ, suc, ◌+◌, ◌-◌, ◌≤◌, ◌<◌, List, [], ◌∷◌, ◌++◌, ◌≡◌, refl, length, get_or, take, drop, set}
use Rattle.std.proofs.Common.{append-nil, append_assoc, sym, ap, ap₂, ◌∙◌, add-zero, add-suc, arith, length-drop, drop_of_length-le, length-take-le, get_or-take, get_or-drop, drop-drop, drop-set-lt}
use Rattle.std.proofs.lemmas.List.Edits.{sets, sets-eq}
use Rattle.std.proofs.Math.Seq.{drop-append-add, take-set-lt}
use Rattle.std.proofs.lemmas.List.{drop-set-add, take-set-le}

module _ {A : Type 0} where
  abbrev pub part : ℕ → ℕ → List A → List A
  part at n l = take n (drop at l)

  pub length_part : (at n : ℕ) (l : List A) → at + n ≤ length l → length (part at n l) ≡ n
  length_part at n l h = length-take-le n (drop at l) (omega (arith, length-drop at l))

  pub get_d_part : (at n : ℕ) (l : List A) (i : ℕ) (d : A) → i < n → get_or (part at n l) i d ≡ get_or l (at + i) d
  get_d_part at n l i d h = get_or-take n (drop at l) i d h ∙ get_or-drop at l i d

  -- behind a front
  pub part_append : (xs ys : List A) {at : ℕ} (i n : ℕ) → length xs ≡ at → part (at + i) n (xs ++ ys) ≡ part i n ys
  part_append xs ys i n e = ap (take n) (ap (λ (k : ℕ). drop (k + i) (xs ++ ys)) (sym e) ∙ drop-append-add xs ys i)

  -- stores that all lie before the part, or behind it, leave it as it was
  pub part_before : (at n : ℕ) (l : List A) (i : ℕ) (vs : List A) → i + length vs ≤ at → part at n (sets l i vs) ≡ part at n l
  part_before at n l i [] h = refl
  part_before at n l i (v ∷ vs) h =
      part_before at n (set l i v) (suc i) vs (omega arith) ∙ ap (take n) (drop-set-lt at l i v (omega arith))

  part_past : (at n : ℕ) (l : List A) (j : ℕ) (vs : List A) → n ≤ j → part at n (sets l (at + j) vs) ≡ part at n l
  part_past at n l j [] h = refl
  part_past at n l j (v ∷ vs) h =
      ap (λ (k : ℕ). part at n (sets (set l (at + j) v) k vs)) (sym (add-suc at j))
      ∙ part_past at n (set l (at + j) v) (suc j) vs (omega arith)
      ∙ ap (take n) (drop-set-add at l j v)
      ∙ take-set-le n (drop at l) j v h

  pub part_behind : (at n : ℕ) (l : List A) (i : ℕ) (vs : List A) → at + n ≤ i → part at n (sets l i vs) ≡ part at n l
  part_behind at n l i vs h =
      let e : i ≡ at + (i - at) = omega arith in
      ap (λ (k : ℕ). part at n (sets l k vs)) e ∙ part_past at n l (i - at) vs (omega arith)

  -- stores inside the part are stores in it
  pub part_inside : (at n : ℕ) (l : List A) (j : ℕ) (vs : List A) → j + length vs ≤ n → part at n (sets l (at + j) vs) ≡ sets (part at n l) j vs
  part_inside at n l j [] h = refl
  part_inside at n l j (v ∷ vs) h =
      ap (λ (k : ℕ). part at n (sets (set l (at + j) v) k vs)) (sym (add-suc at j))
      ∙ part_inside at n (set l (at + j) v) (suc j) vs (omega arith)
      ∙ ap (λ (r : List A). sets r (suc j) vs) (ap (take n) (drop-set-add at l j v) ∙ take-set-lt n (drop at l) j v (omega arith))

  -- a list stored over another of its length is that list
  pub sets_whole : (o v : List A) → length o ≡ length v → sets o 0 v ≡ v
  sets_whole o v e =
      sets-eq v o 0 (omega arith)
      ∙ ap₂ (λ (a b : List A). a ++ v ++ b) (front o) (drop_of_length-le o {i = 0 + length v} (omega arith))
      ∙ append-nil ([] ++ v)
    where
      front : (l : List A) → take 0 l ≡ []
      front [] = refl
      front (x ∷ xs) = refl

  -- what is stored is the part that stands there
  pub part_stored : (l : List A) (at n : ℕ) (vs : List A) → length vs ≡ n → at + n ≤ length l → part at n (sets l at vs) ≡ vs
  part_stored l at n vs e h =
      ap (λ (k : ℕ). part at n (sets l k vs)) (sym (add-zero at))
      ∙ part_inside at n l 0 vs (omega arith)
      ∙ sets_whole (part at n l) vs (length_part at n l h ∙ sym e)

  -- a part that was lent and came back as vs: the list is that with vs stored
  pub part_back : (l : List A) (at n : ℕ) (vs : List A) → length vs ≡ n → at + n ≤ length l → take at l ++ (vs ++ drop n (drop at l)) ≡ sets l at vs
  part_back l at n vs e h =
      ap (λ (r : List A). take at l ++ (vs ++ r)) (drop-drop n at l ∙ ap (λ (k : ℕ). drop (at + k) l) (sym e))
      ∙ sym (append_assoc (take at l) vs (drop (at + length vs) l))
      ∙ sym (sets-eq vs l at (omega arith))
