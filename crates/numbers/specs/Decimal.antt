-- What a word of digits says: the number, or that it is none.
use Rattle.std.specs.Prelude.{ℕ, ◌+◌, ◌*◌, ◌-◌, ◌<◌, ◌≤◌, ◌≡◌, refl, Bool, true, false, cond, List, [], ◌∷◌, length, drop, get_or, ltb, eqb, Option, Some, None}
use Rattle.std.proofs.Common.{add-one, arith, ltb-false}
use borrow.Author.Tests.{lt-ltb, le-ltb}
use Rattle.std.proofs.Math.Seq.{drop-cons}
use Rattle.std.proofs.Math.ListN.{drop_of_length-le}

-- what the byte says as a digit, or 10
unfoldable pub digit_of : ℕ → ℕ
digit_of b = cond (ltb b 48) 10 (cond (ltb 57 b) 10 (b - 48))

-- the digit that it says
abbrev pub digit_in : ℕ → Option ℕ
digit_in b = cond (ltb 9 (digit_of b)) None (Some (digit_of b))

-- the rest of a word, after digits that say v
unfoldable pub read_from : ℕ → List ℕ → Option ℕ
read_from v [] = Some v
read_from v (b ∷ bs) =
    cond (ltb 9 (digit_of b)) None (cond (ltb 4294967295 (v * 10 + digit_of b)) None (read_from (v * 10 + digit_of b) bs))

-- one to ten digits, and a number of 32 bits
unfoldable pub said_by : List ℕ → Option ℕ
said_by s = cond (eqb (length s) 0) None (cond (ltb 10 (length s)) None (read_from 0 s))

-- what a digit that was found, or not found, says
digit_some : (b : ℕ) {d : ℕ} → Some d ≡ digit_in b → (digit_of b ≤ 9) × (d ≡ digit_of b)
digit_some b {d} e = go (ltb 9 (digit_of b)) refl e
  where
    go : (t : Bool) → ltb 9 (digit_of b) ≡ t → Some d ≡ cond t None (Some (digit_of b)) → (digit_of b ≤ 9) × (d ≡ digit_of b)
    go true q e = let z : ◌≡◌ {A = ℕ} 0 1 = cc in absurd (omega arith)
    go false q e = (ltb-false 9 (digit_of b) q, cc)

digit_none : (b : ℕ) → None ≡ digit_in b → ltb 9 (digit_of b) ≡ true
digit_none b e = go (ltb 9 (digit_of b)) refl e
  where
    go : (t : Bool) → ltb 9 (digit_of b) ≡ t → None ≡ cond t None (Some (digit_of b)) → t ≡ true
    go true q e = refl
    go false q e = let z : ◌≡◌ {A = ℕ} 0 1 = cc in absurd (omega arith)

-- one turn at index i of the word
module _ (s : List ℕ) (v i : ℕ) where
  pub read_end : length s ≤ i → read_from v (drop i s) ≡ Some v
  unfolding read_from
  read_end h = rw drop_of_length-le

  module _ (h : i < length s) where
    pub read_wrong : None ≡ digit_in (get_or s i 0) → read_from v (drop i s) ≡ None
    unfolding read_from
    read_wrong e = rw (drop-cons s i 0) (simp (digit_none (get_or s i 0) e))

    module _ (d : ℕ) (e : Some d ≡ digit_in (get_or s i 0)) where
      pub read_large : 4294967295 < v * 10 + d → read_from v (drop i s) ≡ None
      unfolding read_from
      read_large l =
          let q = digit_some (get_or s i 0) e in
          rw (drop-cons s i 0)
          (simp (le-ltb 9 (digit_of (get_or s i 0)) q.0, lt-ltb 4294967295 (v * 10 + digit_of (get_or s i 0)) (rw q.1 at l)))

      pub read_more : (u : ℕ) → u ≡ v * 10 + d → u ≤ 4294967295 → read_from v (drop i s) ≡ read_from u (drop (i + 1) s)
      unfolding read_from
      read_more u f l =
          let q = digit_some (get_or s i 0) e in
          rw (f, q.1, add-one, drop-cons s i 0)
          (simp (le-ltb 9 (digit_of (get_or s i 0)) q.0, le-ltb 4294967295 (v * 10 + digit_of (get_or s i 0)) (rw (f, q.1) at l)))
