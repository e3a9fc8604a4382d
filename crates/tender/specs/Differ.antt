-- Change request 9, the second tool: the differences that are listed are all, in file order, and none where the files' plans agree.
use Rattle.std.specs.Prelude.{ℕ, max, ◌+◌, ◌-◌, ◌<◌, Bool, true, false, ◌↔◌, ◌≡◌, refl, ltb, length, Some}
use Rattle.std.proofs.lemmas.Bool.{false≢true}
use mathlib.Core.List.Memᴰ
use mathlib.Core.List.{List, [], ◌∷◌, ◌++◌, Memᴰ}
use Rattle.std.proofs.Common.{sym, ap, subst, ◌∙◌, arith, ltb-true, ltb-false}
use Rattle.laws.specs.Keep.{keep}
use Rattle.laws.specs.Members.{chained}
use Rattle.laws.specs.Run.{run}
use Rattle.big_end.specs.Numbers.{number_at, pair_at}
use Rattle.plan_form.specs.Form.{plans_in, set_in, addresses_at, list_in, lists_meet, formed}
use Rattle.plan_form.specs.Gapless.{PlanFile, formed_exactly}
use Rattle.plan_form.specs.Lists.{wrongs_from, wrongs, place_of}
use Rattle.plan_form.specs.Right.{Right, none_wrong, wrong_positions}
use Rattle.plan_differ.specs.declared.Difference.{Difference}
use Rattle.plan_differ.specs.declared.Difference.TheVariants.{Missing, Header, At}
use Rattle.plan_differ.specs.Differences.{same_header, lists_differ, plan_differs, some_differ, differ_from, differences}
use Rattle.plan_differ.specs.Listed.{file_order}
use Rattle.plan_differ.specs.Rising.{Rising, differences_rise}
use Rattle.plan_differ.specs.Members.{Both, IsDifference, same_set, same_says, differences_are}
use Rattle.plans.specs.Asked.{Asked, asked_all, asked_are}

-- whoever asks from plan 1, position 0, and each time from the place after the last difference, is told the differences of two plan files
pub differ_listed : (f g : List ℕ) → PlanFile f → PlanFile g
    → Asked f g 1 0 (differences f g) × ((ds : List Difference) → Asked f g 1 0 ds → ds ≡ differences f g)
differ_listed f g a b = (asked_all f g ((formed_exactly f).1 a) ((formed_exactly g).1 b), λ ds h. asked_are f g h)

-- they are all: a plan that only one file has, a plan of both with another profile, bits or N, and each position that isn't right of the others
pub differ_all : (f g : List ℕ) (d : Difference) → Memᴰ d (differences f g) ↔ IsDifference f g d
differ_all f g d = differences_are f g d

-- in file order: those of the first plan, of the second, and so on ..
pub differ_order : (f g : List ℕ) → differences f g ≡ chained (λ i. plan_differs f g i 0) (run (λ i. i) 0 (max (plans_in f) (plans_in g)))
differ_order f g = file_order f g

-- each stands before those behind it, by its plan, and in a plan by its position: so each is listed once
pub differ_rises : (f g : List ℕ) → Rising (differences f g)
differ_rises f g = differences_rise f g

-- the plans of two files agree
pub record Agree (f g : List ℕ) : Type 0 where
  pub plans : plans_in f ≡ plans_in g
  pub sets : (i : ℕ) → i < plans_in f → set_in f i ≡ set_in g i
  pub lists : (i : ℕ) → i < plans_in f → list_in f i ≡ list_in g i

no_difference : (f g : List ℕ) → Agree f g → (d : Difference) → IsDifference f g d → ⊥
no_difference f g a (Missing plan) h = omega (arith, h.in_one, h.not_both, a.plans)
no_difference f g a (Header plan) h = h.1 (a.sets (plan - 1) (omega (arith, h.0.some, h.0.in_left)))
no_difference f g a (At plan p x y) h =
    let l = a.lists (plan - 1) (omega (arith, h.both_have.some, h.both_have.in_left)) in
    h.not_right (subst (λ (ys : List ℕ). Right (list_in f (plan - 1)) ys p) l
    (record { in_left = below; in_right = below; same = refl }))
  where
    below : p < length (list_in f (plan - 1))
    below = omega (arith, h.below, ap length (a.lists (plan - 1) (omega (arith, h.both_have.some, h.both_have.in_left))))

module _ (f g : List ℕ) (e : differences f g ≡ []) where
  none : (d : Difference) → IsDifference f g d → ⊥
  none d h = Memᴰ.not-nil (subst (Memᴰ d) e ((differences_are f g d).1 h))

  same_plans : plans_in f ≡ plans_in g
  same_plans = go (ltb (plans_in f) (plans_in g)) refl (ltb (plans_in g) (plans_in f)) refl
    where
      go : (a : Bool) → ltb (plans_in f) (plans_in g) ≡ a → (b : Bool) → ltb (plans_in g) (plans_in f) ≡ b → plans_in f ≡ plans_in g
      go true p b q =
          let l = ltb-true (plans_in f) (plans_in g) p in
          absurd (none (Missing (plans_in g)) (record { some = omega arith; in_one = omega arith; not_both = omega arith }))
      go false p true q =
          let l = ltb-true (plans_in g) (plans_in f) q in
          absurd (none (Missing (plans_in f)) (record { some = omega arith; in_one = omega arith; not_both = omega arith }))
      go false p false q = omega (arith, ltb-false (plans_in f) (plans_in g) p, ltb-false (plans_in g) (plans_in f) q)

  module _ (i : ℕ) (h : i < plans_in f) where
    has_both : Both f g (i + 1)
    has_both = record { some = omega arith; in_left = omega arith; in_right = omega (arith, same_plans) }

    here : i + 1 - 1 ≡ i
    here = omega arith

    same_set_at : set_in f i ≡ set_in g i
    same_set_at = go (same_header (set_in f i) (set_in g i)) refl
      where
        go : (b : Bool) → same_header (set_in f i) (set_in g i) ≡ b → set_in f i ≡ set_in g i
        go true q = same_set f g i q
        go false q = absurd (none (Header (i + 1)) (has_both, λ s. false≢true (sym q ∙ same_says f g i (rw here at s))))

    same_list_at : list_in f i ≡ list_in g i
    same_list_at = (none_wrong (list_in f i) (list_in g i)).0 (go (wrongs (list_in f i) (list_in g i)) refl)
      where
        go : (l : List ℕ) → wrongs (list_in f i) (list_in g i) ≡ l → wrongs (list_in f i) (list_in g i) ≡ []
        go [] q = q
        go (p ∷ ps) q =
            let w = (wrong_positions (list_in f i) (list_in g i) p).0 (subst (Memᴰ p) (sym q) (Memᴰ.head refl)) in
            absurd (none (At (i + 1) p (place_of (list_in f (i + 1 - 1)) p) (place_of (list_in g (i + 1 - 1)) p)) (record {
              both_have = has_both;
              same_header_lem = rw here same_set_at;
              below = rw here w.0;
              not_right = rw here w.1;
              left_is = refl;
              right_is = refl;
            }))

-- none exactly where they agree
pub differ_none : (f g : List ℕ) → (differences f g ≡ []) ↔ Agree f g
differ_none f g = (
  λ e. record { plans = same_plans f g e; sets = same_set_at f g e; lists = same_list_at f g e },
  λ a. empty (differences f g) (λ d m. no_difference f g a d ((differences_are f g d).0 m)),
)
  where
    empty : (l : List Difference) → ((d : Difference) → Memᴰ d l → ⊥) → l ≡ []
    empty [] n = refl
    empty (d ∷ l) n = absurd (n d (Memᴰ.head refl))

-- the request's own: one plan each, same profile, bits and N, addresses 0, 16 and 0, 17, give in full one difference, plan 1 at 1: 16 17; a file beside itself
-- gives none; a byte too many is no plan file
abbrev pub one : List ℕ
one = 0 ∷ 0 ∷ 0 ∷ 1 ∷ 0 ∷ 0 ∷ 0 ∷ 3 ∷ 0 ∷ 0 ∷ 0 ∷ 1 ∷ 0 ∷ 0 ∷ 0 ∷ 48 ∷ 0 ∷ 0 ∷ 0 ∷ 24 ∷ 0 ∷ 0 ∷ 0 ∷ 2 ∷ 0 ∷ 0 ∷ 0 ∷ 16 ∷ []

abbrev pub other : List ℕ
other = 0 ∷ 0 ∷ 0 ∷ 1 ∷ 0 ∷ 0 ∷ 0 ∷ 3 ∷ 0 ∷ 0 ∷ 0 ∷ 1 ∷ 0 ∷ 0 ∷ 0 ∷ 48 ∷ 0 ∷ 0 ∷ 0 ∷ 24 ∷ 0 ∷ 0 ∷ 0 ∷ 2 ∷ 0 ∷ 0 ∷ 0 ∷ 17 ∷ []

pub differ_stars : (formed one ≡ true) × (formed other ≡ true)
    × (differences one other ≡ At 1 1 (Some 16) (Some 17) ∷ [])
    × (differences one one ≡ [])
    × (formed (one ++ (0 ∷ [])) ≡ false)
unfolding number_at pair_at set_in addresses_at lists_meet formed wrongs_from same_header lists_differ plan_differs some_differ differ_from keep
differ_stars = (refl, refl, refl, refl, refl)
