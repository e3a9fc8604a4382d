-- Text that is gathered in a room of 4,096 bytes, one byte after the other. Where a byte finds the room full, the room is written and begins anew.
-- `whole`: what was written and then what waits are what waited at first and then s, so nothing is lost or said twice.
use Rattle.std.specs.Prelude.{ℕ, ◌+◌, ◌≤◌, ◌<◌, min, ◌≡◌, refl, cond, List, [], ◌∷◌, ◌++◌, ltb, length, take, drop, get_or, set}
use Rattle.std.proofs.Common.{◌∙◌, ap, sym, subst, ⊎_elim, append_assoc, append-nil, eq-or-lt_of_le, add-one, arith, lt-ltb, le-ltb, length-set, take_all, take-suc-set}
use Rattle.std.proofs.Math.ListN.{drop_of_length-le}
use Rattle.std.proofs.Math.Seq.{append_snoc, drop-cons}
use Rattle.io.specs.Digits.{last_digits, IsDigitCount}

-- how many bytes wait after s
unfoldable pub waiting : ℕ → List ℕ → ℕ
waiting at [] = at
waiting at (b ∷ bs) = cond (ltb at 4096) (waiting (at + 1) bs) (waiting 1 bs)

-- the room after s
unfoldable pub gathered : List ℕ → ℕ → List ℕ → List ℕ
gathered room at [] = room
gathered room at (b ∷ bs) = cond (ltb at 4096) (gathered (set room at b) (at + 1) bs) (gathered (set room 0 b) 1 bs)

-- what is written meanwhile
unfoldable pub out : List ℕ → ℕ → List ℕ → List ℕ
out room at [] = []
out room at (b ∷ bs) = cond (ltb at 4096) (out (set room at b) (at + 1) bs) (room ++ out (set room 0 b) 1 bs)

pub record Put (room : List ℕ) (from : ℕ) (s after : List ℕ) (r : ℕ) : Type 0 where
  pub text : after ≡ gathered room (min from 4096) s
  pub count : r ≡ waiting (min from 4096) s
  pub few : r ≤ 4096

-- a number, in as few digits as hold it
pub record PutNumber (room : List ℕ) (from n : ℕ) (after : List ℕ) (r : ℕ) : Type 0 where
  pub places : ℕ
  pub fewest : IsDigitCount 10 1 n places
  pub put : Put room from (last_digits 10 places n) after r

pub put_number : {room : List ℕ} {from n k : ℕ} {s after : List ℕ} {r : ℕ} → IsDigitCount 10 1 n k → s ≡ last_digits 10 k n → Put room from s after r
    → PutNumber room from n after r
put_number {room} {from} {n} {k} {s} {after} {r} f e p =
    record { places = k; fewest = f; put = subst (λ (x : List ℕ). Put room from x after r) e p }

-- one byte more, at index i of the text
module _ (room : List ℕ) (s : List ℕ) (at i : ℕ) where
  put_end : length s ≤ i → (gathered room at (drop i s) ≡ room) × (waiting at (drop i s) ≡ at)
  unfolding gathered waiting
  put_end h = rw drop_of_length-le (refl, refl)

  module _ (h : i < length s) where
    put_more : at < 4096
        → (gathered room at (drop i s) ≡ gathered (set room at (get_or s i 0)) (at + 1) (drop (i + 1) s))
        × (waiting at (drop i s) ≡ waiting (at + 1) (drop (i + 1) s))
    unfolding gathered waiting
    put_more w = rw (add-one i, drop-cons s i 0) (simp (lt-ltb at 4096 w) (refl, refl))

    put_anew : 4096 ≤ at
        → (gathered room at (drop i s) ≡ gathered (set room 0 (get_or s i 0)) 1 (drop (i + 1) s))
        × (waiting at (drop i s) ≡ waiting 1 (drop (i + 1) s))
    unfolding gathered waiting
    put_anew w = rw (add-one i, drop-cons s i 0) (simp (le-ltb at 4096 w) (refl, refl))

-- the loop: i bytes of s are in
pub record Putting (room : List ℕ) (from : ℕ) (s now : List ℕ) (at i : ℕ) : Type 0 where
  pub few : at ≤ 4096
  pub some : i ≤ length s
  pub text : gathered now at (drop i s) ≡ gathered room (min from 4096) s
  pub count : waiting at (drop i s) ≡ waiting (min from 4096) s

pub put_first : (room : List ℕ) (from : ℕ) (s : List ℕ) {at : ℕ} → at ≡ min from 4096 → Putting room from s room at 0
put_first room from s e =
    record { few = omega arith; some = omega arith; text = ap (λ (n : ℕ). gathered room n s) e; count = ap (λ (n : ℕ). waiting n s) e }

module _ {room : List ℕ} {from : ℕ} {s now : List ℕ} {at i : ℕ} (p : Putting room from s now at i) where
  pub put_done : length s ≤ i → Put room from s now at
  put_done h =
      record {
        text = sym (put_end now s at i h).0 ∙ p.text;
        count = sym (put_end now s at i h).1 ∙ p.count;
        few = p.few;
      }

  module _ (h : i < length s) where
    pub put_goes : at < 4096 → Putting room from s (set now at (get_or s i 0)) (at + 1) (i + 1)
    put_goes w =
        record {
          few = omega arith;
          some = omega arith;
          text = sym (put_more now s at i h w).0 ∙ p.text;
          count = sym (put_more now s at i h w).1 ∙ p.count;
        }

    pub put_turns : 4096 ≤ at → Putting room from s (set now 0 (get_or s i 0)) (0 + 1) (i + 1)
    put_turns w =
        record {
          few = omega arith;
          some = omega arith;
          text = sym (put_anew now s at i h w).0 ∙ p.text;
          count = sym (put_anew now s at i h w).1 ∙ p.count;
        }

-- a byte more waits
one_more : (room : List ℕ) (at b : ℕ) (bs : List ℕ) → at < length room → take at room ++ (b ∷ bs) ≡ take (at + 1) (set room at b) ++ bs
one_more room at b bs h =
    sym (append_snoc (take at room) b bs)
    ∙ ap (λ (r : List ℕ). r ++ bs) (sym (take-suc-set room at b h))
    ∙ ap (λ (n : ℕ). take n (set room at b) ++ bs) (sym (add-one at))

-- nothing is lost
pub whole : (s room : List ℕ) (at : ℕ) → length room ≡ 4096 → at ≤ 4096
    → take at room ++ s ≡ out room at s ++ take (waiting at s) (gathered room at s)
unfolding out waiting gathered
whole [] room at l h = append-nil (take at room)
whole (b ∷ bs) room at l h =
    ⊎_elim
    (λ (q : at ≡ 4096).
    simp (le-ltb at 4096 (omega arith))
    (ap (λ (r : List ℕ). r ++ (b ∷ bs)) (take_all at room (omega arith))
    ∙ ap (λ (r : List ℕ). room ++ r) (one_more room 0 b bs (omega arith) ∙ whole bs (set room 0 b) 1 (length-set room 0 b ∙ l) (omega arith))
    ∙ sym (append_assoc room (out (set room 0 b) 1 bs) (take (waiting 1 bs) (gathered (set room 0 b) 1 bs)))))
    (λ (w : at < 4096).
    simp (lt-ltb at 4096 w) (one_more room at b bs (omega arith) ∙ whole bs (set room at b) (at + 1) (length-set room at b ∙ l) (omega arith)))
    (eq-or-lt_of_le h)
