-- What the three parts of a line's bytes have to do with each other, and where the LF stands. Rests on Lines.
use Prim.Native.Nat.{ℕ, suc, ◌+◌, ◌≤◌, ◌<◌}
use Rattle.std.specs.Prelude.{Bool, true, false, cond, not, ◌≡◌, refl, eqb, nat_eq, nat_lt, take, drop, unwrap_or, Some, None}
use Rattle.std.specs.List.{position, position_or_len}
use mathlib.Core.List.{List, [], ◌∷◌}
use Rattle.std.proofs.Math.Path.{ap}
use Rattle.std.proofs.Common.{◌∙◌, add-one, arith, ltb-true, ltb-false}
use Rattle.std.proofs.Math.ListN.{length}
use Rattle.report_asked.specs.Lines.{line_of, ended, behind}

pub line_le : (s : List ℕ) → length (line_of s) ≤ length s
unfolding line_of
line_le [] = omega arith
line_le (b ∷ bs) = go (eqb b 10) (line_le bs)
  where
    go : (t : Bool) → length (line_of bs) ≤ length bs → length (cond t [] (b ∷ line_of bs)) ≤ suc (length bs)
    go true h = omega arith
    go false h = omega arith

pub take_line : (s : List ℕ) → take (length (line_of s)) s ≡ line_of s
unfolding line_of
take_line [] = refl
take_line (b ∷ bs) = go (eqb b 10) (take_line bs)
  where
    go : (t : Bool) → take (length (line_of bs)) bs ≡ line_of bs → take (length (cond t [] (b ∷ line_of bs))) (b ∷ bs) ≡ cond t [] (b ∷ line_of bs)
    go true e = refl
    go false e = ap (λ (x : List ℕ). b ∷ x) e

pub drop_line : (s : List ℕ) → drop (length (line_of s) + 1) s ≡ behind s
unfolding line_of behind
drop_line s = rw (add-one (length (line_of s))) (next s)
  where
    next : (s : List ℕ) → drop (suc (length (line_of s))) s ≡ behind s
    next [] = refl
    next (b ∷ bs) = go (eqb b 10) (next bs)
      where
        go : (t : Bool) → drop (suc (length (line_of bs))) bs ≡ behind bs → drop (suc (length (cond t [] (b ∷ line_of bs)))) (b ∷ bs) ≡ cond t bs (behind bs)
        go true e = refl
        go false e = e

-- a line that ends before the bytes do ends in LF
pub ended_before : (s : List ℕ) → length (line_of s) < length s → ended s ≡ true
unfolding line_of ended
ended_before [] h = absurd (omega arith)
ended_before (b ∷ bs) h = go (eqb b 10) h (ended_before bs)
  where
    go : (t : Bool) → length (cond t [] (b ∷ line_of bs)) < suc (length bs) → (length (line_of bs) < length bs → ended bs ≡ true) → cond t true (ended bs) ≡ true
    go true h r = refl
    go false h r = r (omega arith)

pub ended_not : (s : List ℕ) → length s ≤ length (line_of s) → ended s ≡ false
unfolding line_of ended
ended_not [] h = refl
ended_not (b ∷ bs) h = go (eqb b 10) h (ended_not bs)
  where
    go : (t : Bool) → suc (length bs) ≤ length (cond t [] (b ∷ line_of bs)) → (length bs ≤ length (line_of bs) → ended bs ≡ false) → cond t true (ended bs) ≡ false
    go true h r = absurd (omega arith)
    go false h r = r (omega arith)

-- the first LF stands behind the first line
line_length : (s : List ℕ) → position_or_len (λ b. nat_eq b 10) s ≡ length (line_of s)
unfolding line_of
line_length [] = refl
line_length (b ∷ bs) = go (eqb b 10) (line_length bs)
  where
    go : (t : Bool) → position_or_len (λ b. nat_eq b 10) bs ≡ length (line_of bs)
        → cond (not t) (1 + position_or_len (λ b. nat_eq b 10) bs) 0 ≡ length (cond t [] (b ∷ line_of bs))
    go true e = refl
    go false e = omega (arith, e)

-- the line ends there, or with the bytes
pub line_found : (s : List ℕ) → unwrap_or (position (λ b. nat_eq b 10) s) (length s) ≡ length (line_of s)
line_found s = go (nat_lt (position_or_len (λ b. nat_eq b 10) s) (length s)) refl
  where
    go : (t : Bool) → nat_lt (position_or_len (λ b. nat_eq b 10) s) (length s) ≡ t
        → unwrap_or (cond t (Some (position_or_len (λ b. nat_eq b 10) s)) None) (length s) ≡ length (line_of s)
    go true q = line_length s
    go false q = omega (arith, line_length s, line_le s, ltb-false (position_or_len (λ b. nat_eq b 10) s) (length s) q)

module _ (s : List ℕ) where
  pub line_ends : {e : ℕ} → Some e ≡ position (λ b. nat_eq b 10) s → (e ≡ length (line_of s)) × (e < length s)
  line_ends {e} f = go (nat_lt (position_or_len (λ b. nat_eq b 10) s) (length s)) refl f
    where
      go : (t : Bool) → nat_lt (position_or_len (λ b. nat_eq b 10) s) (length s) ≡ t
          → Some e ≡ cond t (Some (position_or_len (λ b. nat_eq b 10) s)) None → (e ≡ length (line_of s)) × (e < length s)
      go true q f =
          let z : e ≡ position_or_len (λ b. nat_eq b 10) s = cc in
          (z ∙ line_length s, omega (arith, z, ltb-true (position_or_len (λ b. nat_eq b 10) s) (length s) q))
      go false q f = let z : ◌≡◌ {A = ℕ} 0 1 = cc in absurd (omega arith)

  pub line_open : None ≡ position (λ b. nat_eq b 10) s → ended s ≡ false
  line_open f = go (nat_lt (position_or_len (λ b. nat_eq b 10) s) (length s)) refl f
    where
      go : (t : Bool) → nat_lt (position_or_len (λ b. nat_eq b 10) s) (length s) ≡ t
          → None ≡ cond t (Some (position_or_len (λ b. nat_eq b 10) s)) None → ended s ≡ false
      go true q f = let z : ◌≡◌ {A = ℕ} 0 1 = cc in absurd (omega arith)
      go false q f = ended_not s (omega (arith, line_length s, ltb-false (position_or_len (λ b. nat_eq b 10) s) (length s) q))
