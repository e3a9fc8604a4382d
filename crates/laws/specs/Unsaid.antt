-- The numbers of lines in their order, and that a refusal has no other. Rests on Outcome.
use Rattle.std.specs.Prelude.{ℕ, Bool, true, false, cond, ◌||◌, List, [], ◌∷◌, ◌++◌, map, ◌≡◌, refl, eqb}
use Rattle.std.proofs.Common.{true≢false, sym, ap, ◌∙◌, eq-eqb}
use Rattle.laws.specs.Outcome.{refused, Line, Ruling, clear, stopped, first, settle, judged, first_join, refused_first, stopped_first, never}

-- the numbers of lines, in the order in which they are tested
abbrev pub numbers : List Line → List ℕ
numbers ls = map (λ l. l.number) ls

-- whether a number is one of a list
unfoldable pub among : ℕ → List ℕ → Bool
among k [] = false
among k (x ∷ xs) = eqb x k || among k xs

-- one that is not is never that of the first line that applies
pub not_first : (k : ℕ) (ls : List Line) → among k (numbers ls) ≡ false → first ls ≡ stopped k → ⊥
unfolding among
not_first k [] e q = never (sym q)
not_first k (l ∷ ls) e q = go (eqb l.number k) refl e l.applies q (not_first k ls)
  where
    go : (b : Bool) → eqb l.number k ≡ b → (b || among k (numbers ls)) ≡ false → (a : Bool) → cond a (stopped l.number) (first ls) ≡ stopped k
        → (among k (numbers ls) ≡ false → first ls ≡ stopped k → ⊥) → ⊥
    go true w e a q r = true≢false e
    go false w e true q r = let z : l.number ≡ k = cc in true≢false (sym (eq-eqb l.number k z) ∙ w)
    go false w e false q r = r e q

-- so where lines stand one behind the other, and those in front have no such number, it is said by those behind; and where those behind have none, by
-- those in front
module _ (k : ℕ) (ls ms : List Line) where
  pub not_in_front : among k (numbers ls) ≡ false → first (ls ++ ms) ≡ stopped k → first ms ≡ stopped k
  not_in_front e q = go (first ls) refl (sym (first_join ls ms) ∙ q)
    where
      go : (r : Ruling) → first ls ≡ r → settle r stopped (first ms) ≡ stopped k → first ms ≡ stopped k
      go clear w q = q
      go (stopped j) w q = absurd (not_first k ls e (w ∙ q))

  pub not_behind : among k (numbers ms) ≡ false → first (ls ++ ms) ≡ stopped k → first ls ≡ stopped k
  not_behind e q = go (first ls) refl (sym (first_join ls ms) ∙ q)
    where
      go : (r : Ruling) → first ls ≡ r → settle r stopped (first ms) ≡ stopped k → first ls ≡ stopped k
      go clear w q = absurd (not_first k ms e q)
      go (stopped j) w q = w ∙ q

-- nor that of what a call refuses with, where a refusal's number is the one it was made of
pub unsaid : {R A : Type 0} (give : ℕ → R) (number : R → ℕ) → ((k : ℕ) → number (give k) ≡ k) → (k : ℕ) (ls : List Line) (a : A)
    → among k (numbers ls) ≡ false → (x : R) → judged give ls a ≡ refused x → number x ≡ k → ⊥
unsaid give number of k ls a e x q w =
    let g = refused_first give a ls x q in
    let n : g.number ≡ k = sym (of g.number) ∙ sym (ap number g.refusal_is) ∙ w in
    not_first k ls e (stopped_first ls g.number g.its_line ∙ ap stopped n)
