-- The differences of two files, one after the other: what is left behind a difference is what stands from the place after it on. So whoever asks again from
-- there is told all of them, in file order.
use Prim.Native.Nat.{ℕ, zero, suc, max, ◌+◌, ◌-◌, ◌≤◌, ◌<◌}
use Rattle.std.specs.Prelude.{Bool, ◌&&◌, length}
use Rattle.std.proofs.Math.Bool.{true, false, cond}
use mathlib.Core.List.{List, [], ◌∷◌, ◌++◌, map}
use Rattle.std.proofs.Math.Path.{◌≡◌, refl, sym, ap, ap₂}
use Rattle.std.proofs.Common.{◌∙◌, add-one}
use Rattle.std.proofs.Math.Nat.{sub-zero}
use native.Mathlib.Omega.{arith}
use Rattle.std.proofs.Math.Dec.{ltb, leb}
use borrow.Author.Tests.{leb-true, leb-false}
use Rattle.laws.specs.Members.{chained}
use Rattle.laws.specs.Run.{run}
use Rattle.laws.specs.Kept.{passing, foremost}
use Rattle.plan_form.specs.Form.{plans_in, set_in, list_in}
use Rattle.plan_form.specs.Lists.{wrong, wrongs_from}
use Rattle.plan_differ.specs.declared.Difference.{Difference}
use Rattle.plan_differ.specs.declared.Difference.TheVariants.{Missing, Header, At}
use Rattle.plan_differ.specs.Differences.{same_header, difference_at, lists_differ, plan_differs, some_differ, differ_from, differences}

-- where the next is looked for: the next plan behind one of a whole plan, else the next position. Plans are counted from 0
abbrev pub plan_after : Difference → ℕ
plan_after (Missing i) = i
plan_after (Header i) = i
plan_after (At i p a b) = i - 1

abbrev pub place_after : Difference → ℕ
place_after (Missing i) = 0
place_after (Header i) = 0
place_after (At i p a b) = p + 1

wrongs_tail : (xs ys : List ℕ) (from p : ℕ) (ps : List ℕ) → wrongs_from xs ys from ≡ p ∷ ps → ps ≡ wrongs_from xs ys (p + 1)
unfolding wrongs_from
wrongs_tail xs ys from p ps e =
    let h = foremost (wrong xs ys) from (max (length xs) (length ys) - from) p ps e in
    h.rest ∙ ap (passing (wrong xs ys) (p + 1)) (size (max (length xs) (length ys)) h.from h.below)
  where
    size : (m : ℕ) → from ≤ p → p < from + (m - from) → from + (m - from) - (p + 1) ≡ m - (p + 1)
    size m l h = omega arith

module _ (f g : List ℕ) where
  -- behind the first difference of a plan: nothing, if it is of the whole plan; else those from the next position on
  pub record Tail (i : ℕ) (d : Difference) (ds : List Difference) : Type 0 where
    pub tail_is : (k : ℕ) → ds ++ some_differ f g k (suc i) 0 ≡ some_differ f g (i + suc k - plan_after d) (plan_after d) (place_after d)

  whole : (i : ℕ) (d : Difference) → plan_after d ≡ i + 1 → place_after d ≡ 0 → Tail i d []
  whole i d a b =
      record { tail_is = λ k. rw (a, b, add-one i) (ap (λ (n : ℕ). some_differ f g n (suc i) 0) (let e : k ≡ i + suc k - suc i = omega arith in e)) }

  inside : (i k v : ℕ) (l : List Difference) → l ≡ plan_differs f g i (v + 1)
      → l ++ some_differ f g k (suc i) 0 ≡ some_differ f g (i + suc k - (i + 1 - 1)) (i + 1 - 1) (v + 1)
  unfolding some_differ
  inside i k v l e =
      ap (λ (x : List Difference). x ++ some_differ f g k (suc i) 0) e
      ∙ ap₂ (λ (n j : ℕ). some_differ f g n j (v + 1)) (let y : suc k ≡ i + suc k - (i + 1 - 1) = omega arith in y) (let y : i ≡ i + 1 - 1 = omega arith in y)

  plan_tail : (i p : ℕ) (d : Difference) (ds : List Difference) → plan_differs f g i p ≡ d ∷ ds → Tail i d ds
  unfolding plan_differs lists_differ
  plan_tail i p d ds e = go (ltb i (plans_in f) && ltb i (plans_in g)) refl (same_header (set_in f i) (set_in g i)) refl e
    where
      go : (a : Bool) → (ltb i (plans_in f) && ltb i (plans_in g)) ≡ a → (b : Bool) → same_header (set_in f i) (set_in g i) ≡ b
          → cond a (cond b (map (difference_at f g i) (wrongs_from (list_in f i) (list_in g i) p)) (Header (i + 1) ∷ [])) (Missing (i + 1) ∷ []) ≡ d ∷ ds
          → Tail i d ds
      go false q b r e =
          let x : Missing (i + 1) ≡ d = cc in
          let y : [] ≡ ds = cc in
          rw (← x, ← y) (whole i (Missing (i + 1)) refl refl)
      go true q false r e =
          let x : Header (i + 1) ≡ d = cc in
          let y : [] ≡ ds = cc in
          rw (← x, ← y) (whole i (Header (i + 1)) refl refl)
      go true q true r e = among (wrongs_from (list_in f i) (list_in g i) p) refl e
        where
          among : (ws : List ℕ) → wrongs_from (list_in f i) (list_in g i) p ≡ ws → map (difference_at f g i) ws ≡ d ∷ ds → Tail i d ds
          among [] w e = let z : ◌≡◌ {A = ℕ} 0 1 = cc in absurd (omega arith)
          among (v ∷ vs) w e =
              let x : difference_at f g i v ≡ d = cc in
              let y : map (difference_at f g i) vs ≡ ds = cc in
              rw (← x, ← y) (record {
                tail_is = λ k. inside i k v (map (difference_at f g i) vs)
                    (ap (map (difference_at f g i)) (wrongs_tail (list_in f i) (list_in g i) p v vs w) ∙ sym (rw (q, r)));
              })

  some_tail : (k i p : ℕ) (d : Difference) (ds : List Difference) → some_differ f g k i p ≡ d ∷ ds
      → ds ≡ some_differ f g (i + k - plan_after d) (plan_after d) (place_after d)
  unfolding some_differ
  some_tail zero i p d ds e = let z : ◌≡◌ {A = ℕ} 0 1 = cc in absurd (omega arith)
  some_tail (suc k) i p d ds e = go (plan_differs f g i p) refl e (some_tail k (suc i) 0 d ds)
    where
      go : (l : List Difference) → plan_differs f g i p ≡ l → l ++ some_differ f g k (suc i) 0 ≡ d ∷ ds
          → (some_differ f g k (suc i) 0 ≡ d ∷ ds → ds ≡ some_differ f g (suc i + k - plan_after d) (plan_after d) (place_after d))
          → ds ≡ some_differ f g (i + suc k - plan_after d) (plan_after d) (place_after d)
      go [] q e r =
          r e ∙ ap (λ (n : ℕ). some_differ f g n (plan_after d) (place_after d)) (let y : suc i + k - plan_after d ≡ i + suc k - plan_after d = omega arith in y)
      go (x ∷ xs) q e r =
          let a : x ≡ d = cc in
          let b : xs ++ some_differ f g k (suc i) 0 ≡ ds = cc in
          sym b ∙ (plan_tail i p d xs (q ∙ ap (λ (y : Difference). y ∷ xs) a)).tail_is k

  -- past the last plan there are none
  none_past : (i p : ℕ) → max (plans_in f) (plans_in g) ≤ i → differ_from f g i p ≡ []
  unfolding differ_from some_differ
  none_past i p h = rw (let e : max (plans_in f) (plans_in g) - i ≡ 0 = omega arith in e)

  -- what is left behind a difference is what stands from the place after it on
  pub differ_tail : (i p : ℕ) (d : Difference) (ds : List Difference) → differ_from f g i p ≡ d ∷ ds → ds ≡ differ_from f g (plan_after d) (place_after d)
  unfolding differ_from
  differ_tail i p d ds e = go (leb i (max (plans_in f) (plans_in g))) refl
    where
      go : (b : Bool) → leb i (max (plans_in f) (plans_in g)) ≡ b → ds ≡ differ_from f g (plan_after d) (place_after d)
      go true q =
          some_tail (max (plans_in f) (plans_in g) - i) i p d ds e
          ∙ ap (λ (n : ℕ). some_differ f g (n - plan_after d) (plan_after d) (place_after d))
          (let l = leb-true i (max (plans_in f) (plans_in g)) q in let y : i + (max (plans_in f) (plans_in g) - i) ≡ max (plans_in f) (plans_in g) = omega arith in y)
      go false q =
          let n = none_past i p (let l = leb-false i (max (plans_in f) (plans_in g)) q in omega arith) in
          let z : ◌≡◌ {A = ℕ} 0 1 = cc in absurd (omega arith)

  -- in file order: those of the first plan, then those of the second, and so on
  pub file_order : differences f g ≡ chained (λ i. plan_differs f g i 0) (run (λ i. i) 0 (max (plans_in f) (plans_in g)))
  unfolding differ_from some_differ
  file_order = ap (λ (k : ℕ). some_differ f g k 0 0) (sub-zero (max (plans_in f) (plans_in g))) ∙ go (max (plans_in f) (plans_in g)) 0
    where
      go : (k i : ℕ) → some_differ f g k i 0 ≡ chained (λ i. plan_differs f g i 0) (run (λ i. i) i k)
      go zero i = refl
      go (suc k) i = ap (λ (l : List Difference). plan_differs f g i 0 ++ l) (go k (suc i))
