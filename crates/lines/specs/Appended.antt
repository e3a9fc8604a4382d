-- A line's room of 512 bytes with s after its first bytes: s is stored there as far as there is room, and nothing else changes.
-- `in_full`: where all of s has room, that is the first bytes, then s, then what stood behind it.
use Rattle.std.specs.Prelude.{ℕ, ◌+◌, ◌-◌, ◌≤◌, ◌<◌, min, ◌≡◌, refl, Bool, true, false, ltb, List, ◌++◌, length, take, drop}
use Rattle.std.proofs.Common.{◌∙◌, ap, sym, append_assoc, arith, ltb-true, ltb-false, take_all, length-take}
use Rattle.std.proofs.lemmas.List.{take-append-drop}
use borrow.Rule.Slice.PartMut.{put_mid}
use Rattle.std.proofs.lemmas.List.Edits.{sets, sets-eq}
use Rattle.std.proofs.Math.Seq.{drop-drop}

unfoldable pub appended : List ℕ → ℕ → List ℕ → List ℕ
appended room from s = sets room from (take (512 - from) s)

pub record Appended (room : List ℕ) (from : ℕ) (s after : List ℕ) (r : ℕ) : Type 0 where
  pub line : after ≡ appended room from s
  pub end : r ≡ min 512 (from + length s)

pub in_full : (room : List ℕ) (from : ℕ) (s : List ℕ) → length room ≡ 512 → from + length s ≤ 512
    → appended room from s ≡ take from room ++ s ++ drop (from + length s) room
unfolding appended
in_full room from s l h = rw (take_all (512 - from) s (omega arith)) (sets-eq s room from (omega arith))

-- what has room of s
has_room : (from : ℕ) (s : List ℕ) → take (min (length s) (512 - from)) s ≡ take (512 - from) s
has_room from s = go (ltb (512 - from) (length s)) refl
  where
    go : (t : Bool) → ltb (512 - from) (length s) ≡ t → take (min (length s) (512 - from)) s ≡ take (512 - from) s
    go true q = let e : min (length s) (512 - from) ≡ 512 - from = omega (arith, ltb-true (512 - from) (length s) q) in rw e
    go false q =
        let h : length s ≤ 512 - from = omega (arith, ltb-false (512 - from) (length s) q) in
        let e : min (length s) (512 - from) ≡ length s = omega arith in
        rw e (rw (take_all (length s) s (omega arith)) (sym (take_all (512 - from) s h)))

-- stored at once: the first bytes, as much of s as has room, and what stood behind
pub append_put : (room : List ℕ) (from : ℕ) (s t : List ℕ) (at n : ℕ) → length room ≡ 512 → at ≡ min from 512 → n ≡ min (length s) (512 - at)
    → t ≡ take n s → Appended room from s (put_mid at (at + n - at) room t) (at + n)
unfolding appended
append_put room from s t at n l e f y =
    let k : at + n - at ≡ n = omega arith in
    record { line = rw (k, y) (ap (λ (z : List ℕ). take at room ++ (take n s ++ z)) (drop-drop n at room) ∙ go (ltb 512 from) refl); end = omega arith }
  where
    go : (t : Bool) → ltb 512 from ≡ t → take at room ++ (take n s ++ drop (at + n) room) ≡ sets room from (take (512 - from) s)
    go true q =
        let h : 512 < from = ltb-true 512 from q in
        let z : 512 - from ≡ 0 = omega arith in
        let a : at ≡ 512 = omega arith in
        let m : n ≡ 0 = omega arith in
        rw (z, a, m) (take-append-drop 512 room)
    go false q =
        let h : from ≤ 512 = ltb-false 512 from q in
        let a : at ≡ from = omega arith in
        let m : n ≡ min (length s) (512 - from) = rw a at f in
        rw (a, m, has_room from s)
        (let c : from + length (take (512 - from) s) ≤ length room = simp length-take (omega arith) in
        let d : length (take (512 - from) s) ≡ min (length s) (512 - from) = simp length-take (omega arith) in
        let e : sets room from (take (512 - from) s)
        ≡ take from room ++ (take (512 - from) s ++ drop (from + length (take (512 - from) s)) room) =
        sets-eq (take (512 - from) s) room from c ∙ append_assoc (take from room) (take (512 - from) s) (drop (from + length (take (512 - from) s)) room) in
        rw d at (sym e))
