-- A loop that walks the cells: what it has written and what is left to write make up what it is to write. For any rule, test and total.
-- Rests on Keep.
use Prim.Native.Nat.{ℕ, zero, suc, ◌+◌, ◌-◌, ◌≤◌, ◌<◌}
use Rattle.std.specs.Prelude.{Bool, true, false, List, [], ◌∷◌, ◌++◌, ◌≡◌, ◌⊎◌, length, take, drop, set}
use Rattle.std.proofs.Common.{append_assoc, append-nil, ap, sym, ◌∙◌, inl, inr, length-set, take-append-drop, take-suc-set, drop-set-lt, drop-drop, length-take-le}
use Rattle.std.proofs.Math.Path.{refl}
use Rattle.std.proofs.Math.Nat.{sub-zero}
use native.Mathlib.Omega.{arith}
use Rattle.std.proofs.Math.Numerals.{add-one}
use Rattle.laws.specs.Keep.{wrote, steps}

module _ {A : Type 0} (f : ℕ → A) (ok : A → Bool) (total : ℕ) where
  module _ (c n len : ℕ) (h : c < total) (l : n < len) where
    cells_left : total - c ≡ suc (total - (c + 1))
    cells_left = omega arith

    room_left : len - n ≡ suc (len - (n + 1))
    room_left = omega arith

    wrote_skip : ok (f c) ≡ false → wrote f ok c (total - c) (len - n) ≡ wrote f ok (c + 1) (total - (c + 1)) (len - n)
    unfolding wrote
    wrote_skip e = rw (cells_left, room_left, e, add-one c)

    wrote_put : ok (f c) ≡ true → wrote f ok c (total - c) (len - n) ≡ f c ∷ wrote f ok (c + 1) (total - (c + 1)) (len - (n + 1))
    unfolding wrote
    wrote_put e = rw (cells_left, room_left, e, add-one c)

    steps_skip : ok (f c) ≡ false → steps f ok c (total - c) (len - n) ≡ suc (steps f ok (c + 1) (total - (c + 1)) (len - n))
    unfolding steps
    steps_skip e = rw (cells_left, room_left, e, add-one c)

    steps_put : ok (f c) ≡ true → steps f ok c (total - c) (len - n) ≡ suc (steps f ok (c + 1) (total - (c + 1)) (len - (n + 1)))
    unfolding steps
    steps_put e = rw (cells_left, room_left, e, add-one c)

  -- at the end nothing is left: no cell, or no room
  abbrev pub End : ℕ → ℕ → ℕ → Type 0
  End c n len = (total ≤ c) ⊎ (len ≤ n)

  pub wrote_no_room : (c a : ℕ) → wrote f ok c a 0 ≡ []
  unfolding wrote
  wrote_no_room c zero = refl
  wrote_no_room c (suc a) = refl

  pub steps_no_room : (c a : ℕ) → steps f ok c a 0 ≡ 0
  unfolding steps
  steps_no_room c zero = refl
  steps_no_room c (suc a) = refl

  wrote_end : (c n len : ℕ) → End c n len → wrote f ok c (total - c) (len - n) ≡ []
  unfolding wrote
  wrote_end c n len (inl h) = rw (let e : total - c ≡ 0 = omega arith in e)
  wrote_end c n len (inr h) = rw (let e : len - n ≡ 0 = omega arith in e) (wrote_no_room c (total - c))

  steps_end : (c n len : ℕ) → End c n len → steps f ok c (total - c) (len - n) ≡ 0
  unfolding steps
  steps_end c n len (inl h) = rw (let e : total - c ≡ 0 = omega arith in e)
  steps_end c n len (inr h) = rw (let e : len - n ≡ 0 = omega arith in e) (steps_no_room c (total - c))

  module _ (c₀ : ℕ) (out₀ : List A) where
    -- a walk from cell c₀ into out₀ stands at cell c, with n entries written
    pub record Written (c : ℕ) (out : List A) (n : ℕ) : Type 0 where
      pub since : c₀ ≤ c
      pub until : c ≤ total
      pub room : n ≤ length out₀
      pub size : length out ≡ length out₀
      pub front : take n out ++ wrote f ok c (total - c) (length out₀ - n) ≡ wrote f ok c₀ (total - c₀) (length out₀)
      pub back : drop n out ≡ drop n out₀
      pub passed : c + steps f ok c (total - c) (length out₀ - n) ≡ c₀ + steps f ok c₀ (total - c₀) (length out₀)

    pub begun : c₀ ≤ total → Written c₀ out₀ 0
    begun h = record { since = omega arith; until = h; room = omega arith; size = refl; front = rw sub-zero; back = refl; passed = rw sub-zero }

    -- a cell of padding is passed
    pub skipped : {c : ℕ} {out : List A} {n : ℕ} → Written c out n → c < total → n < length out₀ → ok (f c) ≡ false → Written (c + 1) out n
    skipped {c} {out} {n} w h l e = record {
      since = omega arith;
      until = omega arith;
      room = w.room;
      size = w.size;
      front = ap (λ (x : List A). take n out ++ x) (sym (wrote_skip c n (length out₀) h l e)) ∙ w.front;
      back = w.back;
      passed = omega (arith, w.passed, steps_skip c n (length out₀) h l e);
    }

    -- an entry is written
    pub put : {c : ℕ} {out : List A} {n : ℕ} → Written c out n → c < total → n < length out₀ → ok (f c) ≡ true → Written (c + 1) (set out n (f c)) (n + 1)
    put {c} {out} {n} w h l e = record {
      since = omega arith;
      until = omega arith;
      room = omega arith;
      size = length-set out n (f c) ∙ w.size;
      front =
          ap (λ (x : List A). x ++ wrote f ok (c + 1) (total - (c + 1)) (length out₀ - (n + 1)))
          (ap (λ (m : ℕ). take m (set out n (f c))) (add-one n) ∙ take-suc-set out n (f c) (omega (arith, w.size)))
          ∙ append_assoc (take n out) (f c ∷ []) (wrote f ok (c + 1) (total - (c + 1)) (length out₀ - (n + 1)))
          ∙ ap (λ (x : List A). take n out ++ x) (sym (wrote_put c n (length out₀) h l e)) ∙ w.front;
      back =
          drop-set-lt (n + 1) out n (f c) (omega arith)
          ∙ sym (drop-drop 1 n out) ∙ ap (drop 1) w.back ∙ drop-drop 1 n out₀;
      passed = omega (arith, w.passed, steps_put c n (length out₀) h l e);
    }

    pub put_as : {c : ℕ} {out : List A} {n : ℕ} (v : A) → Written c out n → c < total → n < length out₀ → v ≡ f c → ok v ≡ true → Written (c + 1) (set out n v) (n + 1)
    put_as v w h l e o = rw e (put w h l (rw e at o))

    -- at the end: the slice, the entries written, the cells examined
    pub record Ended (c : ℕ) (out : List A) (n : ℕ) : Type 0 where
      pub whole : out ≡ wrote f ok c₀ (total - c₀) (length out₀) ++ drop n out₀
      pub number : n ≡ length (wrote f ok c₀ (total - c₀) (length out₀))
      pub cell : c ≡ c₀ + steps f ok c₀ (total - c₀) (length out₀)

    pub ended : {c : ℕ} {out : List A} {n : ℕ} → Written c out n → End c n (length out₀) → Ended c out n
    ended {c} {out} {n} w e = record {
      whole = sym (take-append-drop n out) ∙ rw (front, w.back);
      number = sym (length-take-le n out (omega (arith, w.size, w.room))) ∙ ap length front;
      cell = omega (arith, w.passed, steps_end c n (length out₀) e);
    }
      where
        front : take n out ≡ wrote f ok c₀ (total - c₀) (length out₀)
        front = sym (append-nil (take n out)) ∙ ap (λ (x : List A). take n out ++ x) (sym (wrote_end c n (length out₀) e)) ∙ w.front
