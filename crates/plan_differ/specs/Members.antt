-- Which differences two files have: a plan that only one of them has, a plan with another profile, bits or N, and each position that isn't right of a plan
-- whose header is the same. Files whose plans agree have none.
use Rattle.std.specs.Prelude.{Option, ℕ, min, max, ◌+◌, ◌-◌, ◌≤◌, ◌<◌, Bool, cond, ◌&&◌, ◌↔◌, ◌≡◌, length}
use Rattle.std.proofs.Math.Bool.{true, false}
use Rattle.std.proofs.lemmas.Bool.{false≢true}
use mathlib.Core.List.Memᴰ
use mathlib.Core.List.{List, [], ◌∷◌, map, Memᴰ}
use Rattle.std.proofs.Math.Path.{refl, ap}
use Rattle.std.proofs.Common.{sym, ap₂, ◌∙◌, subst}
use native.Mathlib.Omega.{arith}
use Rattle.std.proofs.Math.Dec.{eqb, ltb}
use borrow.Author.Tests.{lt-ltb, ltb-true, ltb-false, eq-eqb, eqb-true}
use Rattle.laws.specs.Members.{both, in_chained, of_chained}
use Rattle.laws.specs.Run.{run, mem_run, run_mem}
use Rattle.sets.specs.declared.Set.{Set}
use Rattle.plan_form.specs.Form.{plans_in, set_in, set_of, list_in}
use Rattle.plan_form.specs.Lists.{wrongs, place_of}
use Rattle.plan_form.specs.Right.{Right, wrong_positions}
use Rattle.plan_differ.specs.declared.Difference.{Difference}
use Rattle.plan_differ.specs.declared.Difference.TheVariants.{Missing, Header, At}
use Rattle.plan_differ.specs.Differences.{same_header, difference_at, lists_differ, plan_differs, differences}
use Rattle.plan_differ.specs.Listed.{file_order}

module _ (f g : List ℕ) where
  -- both files have a plan; only one has it. Plans are counted from 1
  pub record Both (plan : ℕ) : Type 0 where
    pub some : 1 ≤ plan
    pub in_left : plan ≤ plans_in f
    pub in_right : plan ≤ plans_in g

  pub record OnlyOne (plan : ℕ) : Type 0 where
    pub some : 1 ≤ plan
    pub in_one : plan ≤ max (plans_in f) (plans_in g)
    pub not_both : min (plans_in f) (plans_in g) < plan

  -- a position that isn't right, with what stands there
  pub record Apart (plan position : ℕ) (left right : Option ℕ) : Type 0 where
    pub both_have : Both plan
    pub same_header_lem : set_in f (plan - 1) ≡ set_in g (plan - 1)
    pub below : position < max (length (list_in f (plan - 1))) (length (list_in g (plan - 1)))
    pub not_right : Right (list_in f (plan - 1)) (list_in g (plan - 1)) position → ⊥
    pub left_is : left ≡ place_of (list_in f (plan - 1)) position
    pub right_is : right ≡ place_of (list_in g (plan - 1)) position

  abbrev pub IsDifference : Difference → Type 0
  IsDifference (Missing plan) = OnlyOne plan
  IsDifference (Header plan) = Both plan × (set_in f (plan - 1) ≡ set_in g (plan - 1) → ⊥)
  IsDifference (At plan position a b) = Apart plan position a b

  -- two headers are the same exactly if the sets are
  pub same_set : (i : ℕ) → same_header (set_in f i) (set_in g i) ≡ true → set_in f i ≡ set_in g i
  unfolding same_header set_in
  same_set i e =
      let s = set_in f i in
      let t = set_in g i in
      let a = both (eqb s.profile t.profile) (eqb s.bits t.bits && eqb s.n t.n) e in
      let b = both (eqb s.bits t.bits) (eqb s.n t.n) a.1 in
      ap (λ (x : ℕ). set_of x s.bits s.n) (eqb-true s.profile t.profile a.0)
      ∙ ap (λ (x : ℕ). set_of t.profile x s.n) (eqb-true s.bits t.bits b.0)
      ∙ ap (set_of t.profile t.bits) (eqb-true s.n t.n b.1)

  pub same_says : (i : ℕ) → set_in f i ≡ set_in g i → same_header (set_in f i) (set_in g i) ≡ true
  unfolding same_header
  same_says i e =
      rw (
        eq-eqb (set_in f i).profile (set_in g i).profile (ap (λ (s : Set). s.profile) e),
        eq-eqb (set_in f i).bits (set_in g i).bits (ap (λ (s : Set). s.bits) e),
        eq-eqb (set_in f i).n (set_in g i).n (ap (λ (s : Set). s.n) e),
      )

  from_one : (i : ℕ) → i + 1 - 1 ≡ i
  from_one i = omega arith

  -- what stands among the differences of plan i, counted from 0, is one
  of_plan : (i : ℕ) → i < max (plans_in f) (plans_in g) → {d : Difference} → Memᴰ d (plan_differs f g i 0) → IsDifference d
  unfolding plan_differs lists_differ
  of_plan i h {d} m = go (ltb i (plans_in f) && ltb i (plans_in g)) refl (same_header (set_in f i) (set_in g i)) refl m
    where
      have : (ltb i (plans_in f) && ltb i (plans_in g)) ≡ true → Both (i + 1)
      have q =
          let a = both (ltb i (plans_in f)) (ltb i (plans_in g)) q in
          let x = ltb-true i (plans_in f) a.0 in
          let y = ltb-true i (plans_in g) a.1 in
          record { some = omega arith; in_left = omega arith; in_right = omega arith }

      lack : (ltb i (plans_in f) && ltb i (plans_in g)) ≡ false → min (plans_in f) (plans_in g) < i + 1
      lack q = decide (ltb i (plans_in f)) refl (ltb i (plans_in g)) refl q
        where
          decide : (a : Bool) → ltb i (plans_in f) ≡ a → (b : Bool) → ltb i (plans_in g) ≡ b → (a && b) ≡ false → min (plans_in f) (plans_in g) < i + 1
          decide true p true q e = absurd (false≢true (sym e))
          decide true p false q e = omega (arith, ltb-false i (plans_in g) q)
          decide false p b q e = omega (arith, ltb-false i (plans_in f) p)

      go : (a : Bool) → (ltb i (plans_in f) && ltb i (plans_in g)) ≡ a → (b : Bool) → same_header (set_in f i) (set_in g i) ≡ b
          → Memᴰ d (cond a (cond b (map (difference_at f g i) (wrongs (list_in f i) (list_in g i))) (Header (i + 1) ∷ [])) (Missing (i + 1) ∷ []))
          → IsDifference d
      go false q b r m =
          subst IsDifference (sym (Memᴰ.eq_of_singleton m)) (record { some = omega arith; in_one = omega arith; not_both = lack q })
      go true q false r m =
          subst IsDifference (sym (Memᴰ.eq_of_singleton m))
          (have q, λ e. false≢true (sym r ∙ same_says i (rw (from_one i) at e)))
      go true q true r m =
          let z = Memᴰ.of_map (difference_at f g i) (wrongs (list_in f i) (list_in g i)) m in
          let w = (wrong_positions (list_in f i) (list_in g i) z.0).0 z.1 in
          subst IsDifference z.2 (record {
            both_have = have q;
            same_header_lem = rw (from_one i) (same_set i r);
            below = rw (from_one i) w.0;
            not_right = rw (from_one i) w.1;
            left_is = rw (from_one i);
            right_is = rw (from_one i);
          })

  -- and each is among those of its plan
  in_plan : (d : Difference) → IsDifference d → (i : ℕ) × (i < max (plans_in f) (plans_in g)) × Memᴰ d (plan_differs f g i 0)
  unfolding plan_differs lists_differ
  in_plan (Missing plan) h =
      (plan - 1, omega (arith, h.some, h.in_one), rw (lacks (ltb (plan - 1) (plans_in f)) refl (ltb (plan - 1) (plans_in g)) refl) (Memᴰ.head (ap Missing (let e : plan ≡ plan - 1 + 1 = omega (arith, h.some) in e))))
    where
      lacks : (a : Bool) → ltb (plan - 1) (plans_in f) ≡ a → (b : Bool) → ltb (plan - 1) (plans_in g) ≡ b → (ltb (plan - 1) (plans_in f) && ltb (plan - 1) (plans_in g)) ≡ false
      lacks true p true q =
          let x = ltb-true (plan - 1) (plans_in f) p in
          let y = ltb-true (plan - 1) (plans_in g) q in
          absurd (omega (arith, h.some, h.not_both))
      lacks true p false q = rw (p, q)
      lacks false p b q = rw p
  in_plan (Header plan) h = (
    plan - 1,
    omega (arith, h.0.some, h.0.in_left),
    rw (lt-ltb (plan - 1) (plans_in f) (omega (arith, h.0.some, h.0.in_left)), lt-ltb (plan - 1) (plans_in g) (omega (arith, h.0.some, h.0.in_right)))
        (rw (unlike (same_header (set_in f (plan - 1)) (set_in g (plan - 1))) refl) (Memᴰ.head (ap Header (let e : plan ≡ plan - 1 + 1 = omega (arith, h.0.some) in e)))),
  )
    where
      unlike : (b : Bool) → same_header (set_in f (plan - 1)) (set_in g (plan - 1)) ≡ b → same_header (set_in f (plan - 1)) (set_in g (plan - 1)) ≡ false
      unlike true q = absurd (h.1 (same_set (plan - 1) q))
      unlike false q = q
  in_plan (At plan position a b) h = (
    plan - 1,
    omega (arith, h.both_have.some, h.both_have.in_left),
    rw (
      lt-ltb (plan - 1) (plans_in f) (omega (arith, h.both_have.some, h.both_have.in_left)),
      lt-ltb (plan - 1) (plans_in g) (omega (arith, h.both_have.some, h.both_have.in_right)),
    )
        (rw (same_says (plan - 1) h.same_header_lem)
        (Memᴰ.cast
        (ap₂ (λ (a b : Option ℕ). At plan position a b) h.left_is h.right_is
        ∙ ap (λ (k : ℕ). At k position (place_of (list_in f (plan - 1)) position) (place_of (list_in g (plan - 1)) position)) (let e : plan ≡ plan - 1 + 1 = omega (arith, h.both_have.some) in e))
        (Memᴰ.map (difference_at f g (plan - 1)) ((wrong_positions (list_in f (plan - 1)) (list_in g (plan - 1)) position).1 (h.below, h.not_right))))),
  )

  -- the differences of two files are these and no others
  pub differences_are : (d : Difference) → Memᴰ d (differences f g) ↔ IsDifference d
  differences_are d = (
    λ m. let r = of_chained (λ i. plan_differs f g i 0) all (subst (Memᴰ d) (file_order f g) m) in
        let q = mem_run (λ (i : ℕ). i) 0 (max (plans_in f) (plans_in g)) r.1 in
        of_plan r.0 (omega (arith, q.2, q.3)) r.2,
    λ h. let r = in_plan d h in
        subst (Memᴰ d) (sym (file_order f g)) (in_chained (λ i. plan_differs f g i 0) all (run_mem (λ (i : ℕ). i) 0 (max (plans_in f) (plans_in g)) r.0 (omega arith) (omega (arith, r.1))) r.2),
  )
    where
      all : List ℕ
      all = run (λ i. i) 0 (max (plans_in f) (plans_in g))
