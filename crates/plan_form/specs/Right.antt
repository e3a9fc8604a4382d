-- What the wrong positions of two lists say: there are none exactly if the lists are the same; else the first of them is wrong and none before it is, and with
-- the right ones they are all positions below the larger length.
use Prim.Native.Nat.{ℕ, suc, max, ◌+◌, ◌-◌, ◌<◌}
use Rattle.std.specs.Prelude.{Bool, ◌&&◌, ◌↔◌, ◌≡◌, eqb, ltb, get_or}
use Rattle.std.proofs.Math.Bool.{true, false, not}
use mathlib.Core.List.{List, [], ◌∷◌, Memᴰ}
use Rattle.std.proofs.Math.Path.{refl, ap}
use Rattle.std.proofs.Common.{sym, ◌∙◌, arith, ext_get_or, lt-ltb, ltb-true, ltb-false, eq-eqb, eqb-true}
use Rattle.std.proofs.Math.Nat.{sub-zero}
use Rattle.std.proofs.Math.ListN.{length}
use Rattle.std.proofs.lemmas.Bool.{not-true, not-false}
use Rattle.laws.specs.Members.{both}
use Rattle.laws.specs.Keep.{padding}
use Rattle.laws.specs.Cut.{kept_or_padding, keep_has}
use Rattle.laws.specs.Kept.{passing, none_pass, none_passed, passing_mem, foremost}
use Rattle.plan_form.specs.Lists.{agree, wrong, wrongs_from, wrongs}

-- both lists have the position, and the same address stands there
pub record Right (xs ys : List ℕ) (p : ℕ) : Type 0 where
  pub in_left : p < length xs
  pub in_right : p < length ys
  pub same : get_or xs p 0 ≡ get_or ys p 0

module _ (xs ys : List ℕ) (p : ℕ) where
  pub agree_right : agree xs ys p ≡ true → Right xs ys p
  agree_right e =
      let a = both (ltb p (length xs)) (ltb p (length ys) && eqb (get_or xs p 0) (get_or ys p 0)) e in
      let b = both (ltb p (length ys)) (eqb (get_or xs p 0) (get_or ys p 0)) a.1 in
      record { in_left = ltb-true p (length xs) a.0; in_right = ltb-true p (length ys) b.0; same = eqb-true (get_or xs p 0) (get_or ys p 0) b.1 }

  pub right_agree : Right xs ys p → agree xs ys p ≡ true
  right_agree r = rw (lt-ltb p (length xs) r.in_left, lt-ltb p (length ys) r.in_right, eq-eqb (get_or xs p 0) (get_or ys p 0) r.same)

  pub not_wrong : wrong xs ys p ≡ false → Right xs ys p
  not_wrong e = agree_right (not-false (agree xs ys p) e)

  pub wrong_not : wrong xs ys p ≡ true → Right xs ys p → ⊥
  wrong_not e r = let z : ◌≡◌ {A = Bool} true false = sym (right_agree r) ∙ not-true (agree xs ys p) e in let y : ◌≡◌ {A = ℕ} 0 1 = cc in omega arith

module _ (xs ys : List ℕ) where
  abbrev top : ℕ
  top = max (length xs) (length ys)

  -- lists that are right everywhere are the same
  same_lists : ((p : ℕ) → p < top → Right xs ys p) → xs ≡ ys
  same_lists h = ext_get_or 0 xs ys long (λ i l. (h i (omega arith)).same)
    where
      long : length xs ≡ length ys
      long = decide (ltb (length xs) (length ys)) refl (ltb (length ys) (length xs)) refl
        where
          decide : (a : Bool) → ltb (length xs) (length ys) ≡ a → (b : Bool) → ltb (length ys) (length xs) ≡ b → length xs ≡ length ys
          decide true p b q = let l = ltb-true (length xs) (length ys) p in absurd (let r = (h (length xs) (omega arith)).in_left in omega arith)
          decide false p true q = let l = ltb-true (length ys) (length xs) q in absurd (let r = (h (length ys) (omega arith)).in_right in omega arith)
          decide false p false q = omega (arith, ltb-false (length xs) (length ys) p, ltb-false (length ys) (length xs) q)

  -- none is wrong exactly if the lists are the same
  pub none_wrong : (wrongs xs ys ≡ []) ↔ (xs ≡ ys)
  unfolding wrongs_from
  none_wrong = (
    λ e. same_lists (λ p l. not_wrong xs ys p (none_passed (wrong xs ys) 0 (top - 0) e p (omega arith) (omega arith))),
    λ e. rw e (none_pass (wrong ys ys) 0 (max (length ys) (length ys) - 0)
        (λ p l h. ap not (right_agree ys ys p (record { in_left = omega arith; in_right = omega arith; same = refl })))),
  )

  -- how many positions below the larger length are right: those at which the test for a wrong one fails
  abbrev pub right_ones : ℕ
  right_ones = padding (λ p. p) (wrong xs ys) 0 (max (length xs) (length ys))

  -- else the first of them is wrong, none before it is, and with the right ones they are all
  pub record Wrongly (first count : ℕ) : Type 0 where
    pub differs : Right xs ys first → ⊥
    pub right_before : (q : ℕ) → q < first → Right xs ys q
    pub within : first < max (length xs) (length ys)
    pub counts : count ≡ length (wrongs xs ys)
    pub all_are : count + right_ones ≡ max (length xs) (length ys)

  pub first_wrong : (p : ℕ) (ps : List ℕ) → wrongs xs ys ≡ p ∷ ps → Wrongly p (suc (length ps))
  unfolding wrongs_from
  first_wrong p ps e =
      let h = foremost (wrong xs ys) 0 (top - 0) p ps e in
      let k : suc (length ps) ≡ length (wrongs xs ys) = ap length (sym e) in
      record {
        differs = wrong_not xs ys p h.passes;
        right_before = λ q l. not_wrong xs ys q (h.none_before q (omega arith) l);
        within = omega (arith, h.below);
        counts = k;
        all_are = omega (arith, k, ap (λ (m : ℕ). length (passing (wrong xs ys) 0 m)) (sub-zero top), kept_or_padding (λ (p : ℕ). p) (wrong xs ys) 0 top);
      }

  -- which positions they are
  pub wrong_positions : (p : ℕ) → Memᴰ p (wrongs xs ys) ↔ ((p < max (length xs) (length ys)) × (Right xs ys p → ⊥))
  unfolding wrongs_from
  wrong_positions p = (
    λ m. let r = passing_mem (wrong xs ys) 0 (top - 0) m in (omega (arith, r.1), wrong_not xs ys p r.2),
    λ h. keep_has (λ x. x) (wrong xs ys) 0 (top - 0) p (omega arith) (omega (arith, h.0)) (unless (agree xs ys p) refl h.1),
  )
    where
      unless : (b : Bool) → agree xs ys p ≡ b → (Right xs ys p → ⊥) → not b ≡ true
      unless true q n = absurd (n (agree_right xs ys p q))
      unless false q n = refl
