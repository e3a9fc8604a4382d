-- The words of a line: what stands between spaces, a space being any byte up to 32.
use Prim.Native.Nat.{ℕ, zero, suc, ◌+◌, ◌-◌, ◌<◌, ◌≤◌}
use Rattle.std.specs.Prelude.{◌≡◌, refl, Bool, false, not, cond, ltb, nat_lt, length, unwrap_or, Some, None}
use Rattle.std.specs.List.{position, position_or_len}
use Rattle.std.proofs.Common.{ltb-false}
use Rattle.std.proofs.Math.Bool.{true}
use Rattle.std.specs.Bool.{beq}
use mathlib.Core.List.{List, [], ◌∷◌}
use native.Mathlib.Omega.{arith}
use Rattle.std.proofs.Math.ListN.{take, drop}

-- a byte of a word
abbrev pub of_word : ℕ → Bool
of_word b = ltb 32 b

-- how many bytes at the start are a word's (true), or are not
unfoldable pub ends : Bool → List ℕ → ℕ
ends k [] = 0
ends k (b ∷ bs) = cond (beq (of_word b) k) (suc (ends k bs)) 0

-- a line without the spaces at its start, and without the word there
abbrev pub unspaced : List ℕ → List ℕ
unspaced s = drop (ends false s) s

abbrev pub unworded : List ℕ → List ℕ
unworded s = drop (ends true s) s

-- word i of a line, counted from 0: empty where the line has fewer
unfoldable pub word_of : ℕ → List ℕ → List ℕ
word_of zero s = take (ends true (unspaced s)) (unspaced s)
word_of (suc i) s = word_of i (unworded (unspaced s))

-- a run of one kind ends where the first byte of the other kind stands
ends_at : (k : Bool) (s : List ℕ) → position_or_len (λ b. beq (of_word b) (not k)) s ≡ ends k s
unfolding ends
ends_at k [] = refl
ends_at k (b ∷ bs) = go (of_word b) k (ends_at k bs)
  where
    go : (w k : Bool) {n m : ℕ} → n ≡ m → cond (not (beq w (not k))) (1 + n) 0 ≡ cond (beq w k) (suc m) 0
    go true true e = omega (arith, e)
    go true false e = refl
    go false true e = refl
    go false false e = omega (arith, e)

ends_le : (k : Bool) (s : List ℕ) → ends k s ≤ length s
unfolding ends
ends_le k [] = omega arith
ends_le k (b ∷ bs) = go (beq (of_word b) k) (ends_le k bs)
  where
    go : (t : Bool) {n m : ℕ} → n ≤ m → cond t (suc n) 0 ≤ suc m
    go true h = omega arith
    go false h = omega arith

pub run_found : (k : Bool) (s : List ℕ) → unwrap_or (position (λ b. beq (of_word b) (not k)) s) (length s) ≡ ends k s
run_found k s = go (nat_lt (position_or_len (λ b. beq (of_word b) (not k)) s) (length s)) refl
  where
    go : (t : Bool) → nat_lt (position_or_len (λ b. beq (of_word b) (not k)) s) (length s) ≡ t
        → unwrap_or (cond t (Some (position_or_len (λ b. beq (of_word b) (not k)) s)) None) (length s) ≡ ends k s
    go true q = ends_at k s
    go false q = omega (arith, ends_at k s, ends_le k s, ltb-false (position_or_len (λ b. beq (of_word b) (not k)) s) (length s) q)

-- the loop that looks for word i: r is the line behind k words
pub word_first : (i : ℕ) (s : List ℕ) → word_of (i - 0) s ≡ word_of i s
word_first i s = let e : i - 0 ≡ i = omega arith in rw e

module _ (i k : ℕ) (s r : List ℕ) {m : List ℕ} (w : word_of (i - k) r ≡ word_of i s) (p : m ≡ unspaced r) where
  pub word_passed : {n : List ℕ} → k < i → n ≡ unworded m → word_of (i - (k + 1)) n ≡ word_of i s
  unfolding word_of
  word_passed h q = let e : i - k ≡ suc (i - (k + 1)) = omega arith in rw (q, p) (rw e at w)

  pub word_found : {n : ℕ} → i ≤ k → n ≡ ends true m → take n m ≡ word_of i s
  unfolding word_of
  word_found h q = let e : i - k ≡ 0 = omega arith in rw (q, p) (rw e at w)
