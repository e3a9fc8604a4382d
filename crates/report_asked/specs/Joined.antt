-- Bytes behind bytes: where the first line is cut then, and that what is no number stays none. Rests on Lines.
use Rattle.std.specs.Prelude.{ℕ, ◌+◌, ◌*◌, ◌≤◌, Bool, eqb, None}
use Rattle.std.proofs.Math.Bool.{true, false, cond}
use Rattle.std.proofs.lemmas.Bool.{false≢true}
use mathlib.Core.List.{List, [], ◌∷◌, ◌++◌, append-nil, append_assoc}
use Rattle.std.proofs.Math.Path.{◌≡◌, refl, ap}
use Rattle.std.proofs.Common.{sym, subst, ◌∙◌, arith}
use Rattle.std.proofs.Math.Dec.{ltb}
use Rattle.std.proofs.Math.ListN.{length, length-append}
use borrow.Author.Tests.{le-ltb, ltb-false, eqb-true, ne_eqb}
use Rattle.numbers.specs.Decimal.{digit_of, read_from, said_by}
use Rattle.report_asked.specs.Lines.{line_of, ended, behind, number_in}

module _ (t : List ℕ) where
  -- behind bytes with no LF
  pub line_on : (s : List ℕ) → ended s ≡ false → line_of (s ++ t) ≡ s ++ line_of t
  unfolding line_of ended
  line_on [] e = refl
  line_on (b ∷ bs) e = go (eqb b 10) e (line_on bs)
    where
      go : (x : Bool) → cond x true (ended bs) ≡ false → (ended bs ≡ false → line_of (bs ++ t) ≡ bs ++ line_of t)
          → cond x [] (b ∷ line_of (bs ++ t)) ≡ b ∷ (bs ++ line_of t)
      go true e r = absurd (false≢true (sym e))
      go false e r = ap (λ (l : List ℕ). b ∷ l) (r e)

  pub ended_on : (s : List ℕ) → ended s ≡ false → ended (s ++ t) ≡ ended t
  unfolding ended
  ended_on [] e = refl
  ended_on (b ∷ bs) e = go (eqb b 10) e (ended_on bs)
    where
      go : (x : Bool) → cond x true (ended bs) ≡ false → (ended bs ≡ false → ended (bs ++ t) ≡ ended t) → cond x true (ended (bs ++ t)) ≡ ended t
      go true e r = absurd (false≢true (sym e))
      go false e r = r e

  pub behind_on : (s : List ℕ) → ended s ≡ false → behind (s ++ t) ≡ behind t
  unfolding behind ended
  behind_on [] e = refl
  behind_on (b ∷ bs) e = go (eqb b 10) e (behind_on bs)
    where
      go : (x : Bool) → cond x true (ended bs) ≡ false → (ended bs ≡ false → behind (bs ++ t) ≡ behind t) → cond x (bs ++ t) (behind (bs ++ t)) ≡ behind t
      go true e r = absurd (false≢true (sym e))
      go false e r = r e

  wrong_read : (s : List ℕ) (v : ℕ) → read_from v s ≡ None → read_from v (s ++ t) ≡ None
  unfolding read_from
  wrong_read [] v e = let z : ◌≡◌ {A = ℕ} 0 1 = cc in absurd (omega arith)
  wrong_read (b ∷ bs) v e = go (ltb 9 (digit_of b)) (ltb 4294967295 (v * 10 + digit_of b)) e (wrong_read bs (v * 10 + digit_of b))
    where
      go : (p q : Bool) → cond p None (cond q None (read_from (v * 10 + digit_of b) bs)) ≡ None
          → (read_from (v * 10 + digit_of b) bs ≡ None → read_from (v * 10 + digit_of b) (bs ++ t) ≡ None)
          → cond p None (cond q None (read_from (v * 10 + digit_of b) (bs ++ t))) ≡ None
      go true q e r = refl
      go false true e r = refl
      go false false e r = r e

  -- bytes that are no number are none with more behind them
  pub wrong_on : (s : List ℕ) → (length s ≡ 0 → ⊥) → number_in s ≡ None → number_in (s ++ t) ≡ None
  unfolding number_in said_by
  wrong_on s some e = long (ltb 4 (length (s ++ t))) refl
    where
      short : ltb 4 (length (s ++ t)) ≡ false → read_from 0 s ≡ None
      short h =
          let l = ltb-false 4 (length (s ++ t)) h in
          let f : length s ≤ 4 = omega (arith, length-append s t) in
          simp (le-ltb 4 (length s) f, ne_eqb (length s) 0 some, le-ltb 10 (length s) (omega arith)) at e

      long : (x : Bool) → ltb 4 (length (s ++ t)) ≡ x
          → cond x None (cond (eqb (length (s ++ t)) 0) None (cond (ltb 10 (length (s ++ t))) None (read_from 0 (s ++ t)))) ≡ None
      long true h = refl
      long false h =
          let l = ltb-false 4 (length (s ++ t)) h in
          rw (wrong_read s 0 (short h)) (simp (ne_eqb (length (s ++ t)) 0 (λ z. some (omega (arith, length-append s t))), le-ltb 10 (length (s ++ t)) (omega arith)))

-- a line with no LF is all there is
pub line_whole : (s : List ℕ) → ended s ≡ false → line_of s ≡ s
unfolding line_of
line_whole s e = ap line_of (sym (append-nil s)) ∙ line_on [] s e ∙ append-nil s

-- bytes with an LF are cut there
pub line_unbroken : (s : List ℕ) → ended (line_of s) ≡ false
unfolding line_of ended
line_unbroken [] = refl
line_unbroken (b ∷ bs) = go (eqb b 10) refl (line_unbroken bs)
  where
    go : (x : Bool) → eqb b 10 ≡ x → ended (line_of bs) ≡ false → ended (cond x [] (b ∷ line_of bs)) ≡ false
    go true q e = refl
    go false q e = rw q e

pub line_cut : (s : List ℕ) → ended s ≡ true → s ≡ line_of s ++ (10 ∷ behind s)
unfolding line_of ended behind
line_cut [] e = absurd (false≢true e)
line_cut (b ∷ bs) e = go (eqb b 10) refl e (line_cut bs)
  where
    go : (x : Bool) → eqb b 10 ≡ x → cond x true (ended bs) ≡ true → (ended bs ≡ true → bs ≡ line_of bs ++ (10 ∷ behind bs))
        → b ∷ bs ≡ cond x [] (b ∷ line_of bs) ++ (10 ∷ cond x bs (behind bs))
    go true q e r = ap (λ (n : ℕ). n ∷ bs) (eqb-true b 10 q)
    go false q e r = ap (λ (l : List ℕ). b ∷ l) (r e)

-- an LF between two parts, of which the first has none
pub record CutAt (s p u : List ℕ) : Type 0 where
  pub line_is : line_of s ≡ p
  pub ends : ended s ≡ true
  pub behind_is : behind s ≡ u

pub cut_at : (p u : List ℕ) → ended p ≡ false → CutAt (p ++ (10 ∷ u)) p u
unfolding line_of ended behind
cut_at p u e =
    record { line_is = line_on (10 ∷ u) p e ∙ append-nil p; ends = ended_on (10 ∷ u) p e; behind_is = behind_on (10 ∷ u) p e }

-- bytes behind a line that has ended
pub cut_over : (s t : List ℕ) → ended s ≡ true → CutAt (s ++ t) (line_of s) (behind s ++ t)
cut_over s t e =
    let w : s ++ t ≡ line_of s ++ (10 ∷ (behind s ++ t)) = ap (λ (l : List ℕ). l ++ t) (line_cut s e) ∙ append_assoc (line_of s) (10 ∷ behind s) t in
    subst (λ (l : List ℕ). CutAt l (line_of s) (behind s ++ t)) (sym w) (cut_at (line_of s) (behind s ++ t) (line_unbroken s))
