-- Named words, as `stream=2`: a word that holds a `=` (61) and no `/` (47) before it. Its name stands before the `=`, its value behind it. Rests on Words
-- of crate lines.
use Prim.Native.Nat.{ℕ, zero, suc, ◌+◌, ◌-◌, ◌<◌, ◌≤◌}
use Rattle.std.specs.Prelude.{◌≡◌, refl, Bool, true, false, not, ◌||◌, cond, eqb, nat_eq, nat_lt, take, drop, get_or, Some, None}
use Rattle.std.specs.List.{position, position_or_len}
use Rattle.std.proofs.Common.{◌∙◌, ltb-false}
use Rattle.std.proofs.Math.Path.{sym, ap}
use Rattle.std.specs.Bool.{beq}
use mathlib.Core.List.{List, [], ◌∷◌}
use native.Mathlib.Omega.{arith}
use borrow.Author.Tests.{eq-eqb, ne_eqb, eqb-true}
use Rattle.std.proofs.Math.ListN.{length, drop_of_length-le, length-drop, get_or-eq_default}
use Rattle.std.proofs.Math.Seq.{take_all}
use Rattle.lines.specs.Words.{word_of}

-- where the first `=` or `/` stands; the word's length where there is none
unfoldable pub mark_of : List ℕ → ℕ
mark_of [] = 0
mark_of (b ∷ bs) = cond (eqb b 61) 0 (cond (eqb b 47) 0 (suc (mark_of bs)))

unfoldable pub is_named : List ℕ → Bool
is_named w = eqb (get_or w (mark_of w) 0) 61

unfoldable pub name_of : List ℕ → List ℕ
name_of w = take (mark_of w) w

unfoldable pub value_of : List ℕ → List ℕ
value_of w = drop (mark_of w + 1) w

-- n words of a line, from word j on
unfoldable pub words_from : List ℕ → ℕ → ℕ → List (List ℕ)
words_from s j zero = []
words_from s j (suc n) = word_of j s ∷ words_from s (j + 1) n

-- the words of a line, of which there are no more than bytes; the first that is empty is none
abbrev pub words_of : List ℕ → List (List ℕ)
words_of s = words_from s 0 (length s)

-- word i, counted from 0, of those that are named (true), or that are not: empty where there are fewer
unfoldable pub picked : Bool → ℕ → List (List ℕ) → List ℕ
picked k i [] = []
picked k i (w ∷ ws) = cond (eqb (length w) 0) [] (cond (beq (is_named w) k) (cond (eqb i 0) w (picked k (i - 1) ws)) (picked k i ws))

-- the mark is where the first `=` or `/` is found
mark_at : (w : List ℕ) → position_or_len (λ b. nat_eq b 61 || nat_eq b 47) w ≡ mark_of w
unfolding mark_of
mark_at [] = refl
mark_at (b ∷ bs) = go (eqb b 61) (eqb b 47) (mark_at bs)
  where
    go : (p q : Bool) {n m : ℕ} → n ≡ m → cond (not (p || q)) (1 + n) 0 ≡ cond p 0 (cond q 0 (suc m))
    go true q e = refl
    go false true e = refl
    go false false e = omega (arith, e)

module _ (w : List ℕ) where
  pub mark_some : {e : ℕ} → Some e ≡ position (λ b. nat_eq b 61 || nat_eq b 47) w → e ≡ mark_of w
  mark_some {e} f = go (nat_lt (position_or_len (λ b. nat_eq b 61 || nat_eq b 47) w) (length w)) f
    where
      go : (t : Bool) → Some e ≡ cond t (Some (position_or_len (λ b. nat_eq b 61 || nat_eq b 47) w)) None → e ≡ mark_of w
      go true f = let z : e ≡ position_or_len (λ b. nat_eq b 61 || nat_eq b 47) w = cc in z ∙ mark_at w
      go false f = let z : ◌≡◌ {A = ℕ} 0 1 = cc in absurd (omega arith)

  mark_none : None ≡ position (λ b. nat_eq b 61 || nat_eq b 47) w → length w ≤ mark_of w
  mark_none f = go (nat_lt (position_or_len (λ b. nat_eq b 61 || nat_eq b 47) w) (length w)) refl f
    where
      go : (t : Bool) → nat_lt (position_or_len (λ b. nat_eq b 61 || nat_eq b 47) w) (length w) ≡ t
          → None ≡ cond t (Some (position_or_len (λ b. nat_eq b 61 || nat_eq b 47) w)) None → length w ≤ mark_of w
      go true q f = let z : ◌≡◌ {A = ℕ} 0 1 = cc in absurd (omega arith)
      go false q f = omega (arith, mark_at w, ltb-false (position_or_len (λ b. nat_eq b 61 || nat_eq b 47) w) (length w) q)

-- what the mark tells
module _ (w : List ℕ) {e : ℕ} (f : Some e ≡ position (λ b. nat_eq b 61 || nat_eq b 47) w) where
  pub named_at : eqb (get_or w e 0) 61 ≡ is_named w
  unfolding is_named
  named_at = rw (mark_some w f)

  pub name_at : take e w ≡ name_of w
  unfolding name_of
  name_at = rw (mark_some w f)

  pub value_at : take (length w - (e + 1)) (drop (e + 1) w) ≡ value_of w
  unfolding value_of
  value_at = take_all (length w - (e + 1)) (drop (e + 1) w) (simp length-drop (omega arith)) ∙ rw (mark_some w f)

-- and that there is none
module _ (w : List ℕ) (f : None ≡ position (λ b. nat_eq b 61 || nat_eq b 47) w) where
  pub named_none : false ≡ is_named w
  unfolding is_named
  named_none = let h = mark_none w f in rw (get_or-eq_default w 0 h)

  pub name_none : w ≡ name_of w
  unfolding name_of
  name_none = sym (take_all (mark_of w) w (mark_none w f))

  pub value_none : [] ≡ value_of w
  unfolding value_of
  value_none = let h : length w ≤ mark_of w + 1 = omega (arith, mark_none w f) in sym (drop_of_length-le w h)

empty : (w : List ℕ) → length w ≡ 0 → w ≡ []
empty [] e = refl
empty (b ∷ bs) e = absurd (omega arith)

-- the loop that looks for word i of a kind: it is at word j, and `left` of the kind are still to be passed
pub record Picking (k : Bool) (s : List ℕ) (i left j : ℕ) : Type 0 where
  pub here : j ≤ length s
  pub same : picked k left (words_from s j (length s - j)) ≡ picked k i (words_of s)

pub pick_first : (k : Bool) (s : List ℕ) (i : ℕ) → Picking k s i i 0
pick_first k s i =
    record { here = omega arith; same = ap (λ (n : ℕ). picked k i (words_from s 0 n)) (let e : length s - 0 ≡ length s = omega arith in e) }

module _ {k : Bool} {s : List ℕ} {i left j : ℕ} (p : Picking k s i left j) where
  pub pick_none : length s ≤ j → [] ≡ picked k i (words_of s)
  unfolding picked words_from
  pick_none h =
      let e : length s - j ≡ 0 = omega arith in
      let z : picked k left (words_from s j (length s - j)) ≡ [] = rw e in
      sym z ∙ p.same

  module _ (h : j < length s) {w : List ℕ} (q : w ≡ word_of j s) where
    rest : List (List ℕ)
    rest = words_from s (j + 1) (length s - (j + 1))

    goes : picked k left (w ∷ rest) ≡ picked k i (words_of s)
    unfolding words_from rest
    goes =
        let e : length s - j ≡ suc (length s - (j + 1)) = omega arith in
        let z : words_from s j (length s - j) ≡ w ∷ rest = rw e (ap (λ (l : List ℕ). l ∷ rest) (sym q)) in
        ap (picked k left) (sym z) ∙ p.same

    pub pick_empty : eqb (length w) 0 ≡ true → w ≡ picked k i (words_of s)
    unfolding picked
    pick_empty e =
        let z : picked k left (w ∷ rest) ≡ [] = simp e in
        empty w (eqb-true (length w) 0 e) ∙ sym z ∙ goes

    module _ (n : eqb (length w) 0 ≡ false) {b : Bool} (r : b ≡ is_named w) where
      pub pick_found : beq b k ≡ true → left ≡ 0 → w ≡ picked k i (words_of s)
      unfolding picked
      pick_found e z =
          let y : picked k left (w ∷ rest) ≡ w = simp n (rw (← r) (simp (e, eq-eqb left 0 z))) in
          sym y ∙ goes

      pub pick_passed : beq b k ≡ true → (left ≡ 0 → ⊥) → Picking k s i (left - 1) (j + 1)
      unfolding picked rest
      pick_passed e z =
          let y : picked k left (w ∷ rest) ≡ picked k (left - 1) rest = simp n (rw (← r) (simp (e, ne_eqb left 0 z))) in
          record { here = omega arith; same = sym y ∙ goes }

      pub pick_other : beq b k ≡ false → Picking k s i left (j + 1)
      unfolding picked rest
      pick_other e =
          let y : picked k left (w ∷ rest) ≡ picked k left rest = simp n (rw (← r) (simp e)) in
          record { here = omega arith; same = sym y ∙ goes }
