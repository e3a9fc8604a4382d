-- Looking for the next difference: along two lists, in a plan, and from plan to plan. What is left from here has the same first as the whole.
use Prim.Native.Nat.{ℕ, suc, max, ◌+◌, ◌*◌, ◌-◌, ◌≤◌, ◌<◌}
use Rattle.std.specs.Prelude.{Bool, true, false, Option, Some, None, ◌≡◌, refl, eqb, length}
use Rattle.std.proofs.Math.Bool.{not}
use mathlib.Core.List.{List, [], ◌∷◌, ◌++◌, map}
use Rattle.std.proofs.Math.Path.{sym, ap, ap₂}
use Rattle.std.proofs.Common.{◌∙◌}
use Rattle.std.proofs.Math.Numerals.{add-one}
use native.Mathlib.Omega.{arith}
use borrow.Author.Tests.{lt-ltb, le-ltb}
use Rattle.laws.specs.Keep.{keep}
use Rattle.laws.specs.Members.{fails, passes}
use Rattle.big_end.specs.Numbers.{pair_at}
use Rattle.plan_form.specs.declared.Listing.{Listing}
use Rattle.plan_form.specs.Form.{plans_in, set_in, list_in}
use Rattle.plan_form.specs.Lists.{agree, wrongs_from, place_of, list_at, Inside, Listed, listed_length, listed_address, listed_list}
use Rattle.plan_differ.specs.declared.Difference.{Difference}
use Rattle.plan_differ.specs.declared.Difference.TheVariants.{Missing, Header, At}
use Rattle.plan_differ.specs.Differences.{same_header, difference_at, lists_differ, plan_differs, some_differ, differ_from, next_of}

-- a position that was found is a number of 16 bits
abbrev pub Below : Option ℕ → Type 0
Below (Some p) = p < 65536
Below None = Unit {0}

-- at a position of two lists
module _ (f g : List ℕ) (a b : Listing) (p : ℕ) where
  pub apart_left : a.count ≤ p → false ≡ agree (list_at f a) (list_at g b) p
  apart_left h = sym (rw (le-ltb p (length (list_at f a)) (omega (arith, listed_length f a))))

  module _ (h : p < a.count) where
    pub apart_right : b.count ≤ p → false ≡ agree (list_at f a) (list_at g b) p
    apart_right l =
        sym (rw (lt-ltb p (length (list_at f a)) (omega (arith, listed_length f a)), le-ltb p (length (list_at g b)) (omega (arith, listed_length g b))))

    pub by_addresses : p < b.count → {x y : ℕ} → x ≡ pair_at f (a.offset + 2 * p) → y ≡ pair_at g (b.offset + 2 * p)
        → eqb x y ≡ agree (list_at f a) (list_at g b) p
    by_addresses l q r =
        ap₂ eqb (q ∙ sym (listed_address f a p h)) (r ∙ sym (listed_address g b p l))
        ∙ sym (rw (lt-ltb p (length (list_at f a)) (omega (arith, listed_length f a)), lt-ltb p (length (list_at g b)) (omega (arith, listed_length g b))))

  -- along them
  module _ {most : ℕ} (m : most ≡ max a.count b.count) where
    top : max (length (list_at f a)) (length (list_at g b)) ≡ most
    top = ap₂ max (listed_length f a) (listed_length g b) ∙ sym m

    pub seek_end : most ≤ p → None ≡ next_of (wrongs_from (list_at f a) (list_at g b) p)
    unfolding wrongs_from keep
    seek_end h = sym (rw (let e : max (length (list_at f a)) (length (list_at g b)) - p ≡ 0 = omega (arith, top) in e))

    module _ (h : p < most) {r : Bool} (q : r ≡ agree (list_at f a) (list_at g b) p) where
      some_left : max (length (list_at f a)) (length (list_at g b)) - p ≡ suc (max (length (list_at f a)) (length (list_at g b)) - (p + 1))
      some_left = omega (arith, top)

      pub seek_found : not r ≡ true → Some p ≡ next_of (wrongs_from (list_at f a) (list_at g b) p)
      unfolding wrongs_from keep
      seek_found e = sym (rw some_left (rw (ap not (sym q) ∙ e)))

      pub seek_next : not r ≡ false → next_of (wrongs_from (list_at f a) (list_at g b) (p + 1)) ≡ next_of (wrongs_from (list_at f a) (list_at g b) p)
      unfolding wrongs_from keep
      seek_next e = sym (rw (some_left, add-one p) (rw (ap not (sym q) ∙ e)))

    pub seek_below : Inside f a → Inside g b → p < most → p < 65536
    seek_below x y h = omega (arith, m, x.short, x.inside, y.short, y.inside)

-- the next difference of two lists of plan i
next_none : (h : ℕ → Difference) (l : List ℕ) → None ≡ next_of l → None ≡ next_of (map h l)
next_none h [] e = refl
next_none h (x ∷ xs) e = let z : ◌≡◌ {A = ℕ} 0 1 = cc in absurd (omega arith)

next_one : (h : ℕ → Difference) (l : List ℕ) (p : ℕ) → Some p ≡ next_of l → Some (h p) ≡ next_of (map h l)
next_one h [] p e = let z : ◌≡◌ {A = ℕ} 0 1 = cc in absurd (omega arith)
next_one h (x ∷ xs) p e = let z : p ≡ x = cc in ap (λ (x : ℕ). Some (h x)) z

module _ {f g : List ℕ} {i : ℕ} (from : ℕ) {a b : Listing} (la : Listed f i a) (lb : Listed g i b) where
  sought_is : next_of (wrongs_from (list_at f a) (list_at g b) from) ≡ next_of (wrongs_from (list_in f i) (list_in g i) from)
  sought_is = ap₂ (λ (xs ys : List ℕ). next_of (wrongs_from xs ys from)) (listed_list la) (listed_list lb)

  pub lists_even : None ≡ next_of (wrongs_from (list_at f a) (list_at g b) from) → None ≡ next_of (lists_differ f g i from)
  unfolding lists_differ
  lists_even e = next_none (difference_at f g i) (wrongs_from (list_in f i) (list_in g i) from) (e ∙ sought_is)

  pub lists_apart : {p : ℕ} → Some p ≡ next_of (wrongs_from (list_at f a) (list_at g b) from)
      → {x y : Option ℕ} → x ≡ place_of (list_at f a) p → y ≡ place_of (list_at g b) p → Some (At (i + 1) p x y) ≡ next_of (lists_differ f g i from)
  unfolding lists_differ
  lists_apart {p} e q r =
      ap₂ (λ (x y : Option ℕ). Some (At (i + 1) p x y)) (q ∙ ap (λ (l : List ℕ). place_of l p) (listed_list la)) (r ∙ ap (λ (l : List ℕ). place_of l p) (listed_list lb))
      ∙ next_one (difference_at f g i) (wrongs_from (list_in f i) (list_in g i) from) p (e ∙ sought_is)

-- a plan, return by return
module _ (f g : List ℕ) (i from : ℕ) {a : ℕ} (p : a ≡ plans_in f) where
  pub plan_left : a ≤ i → Some (Missing (i + 1)) ≡ next_of (plan_differs f g i from)
  unfolding plan_differs
  plan_left h = sym (rw (le-ltb i (plans_in f) (rw p at h)))

  module _ (h : i < a) {b : ℕ} (q : b ≡ plans_in g) where
    pub plan_right : b ≤ i → Some (Missing (i + 1)) ≡ next_of (plan_differs f g i from)
    unfolding plan_differs
    plan_right l = sym (rw (lt-ltb i (plans_in f) (rw p at h), le-ltb i (plans_in g) (rw q at l)))

    module _ (l : i < b) {r : Bool} (e : r ≡ same_header (set_in f i) (set_in g i)) where
      pub plan_header : not r ≡ true → Some (Header (i + 1)) ≡ next_of (plan_differs f g i from)
      unfolding plan_differs
      plan_header t = sym (rw (lt-ltb i (plans_in f) (rw p at h), lt-ltb i (plans_in g) (rw q at l), fails e t))

      pub plan_lists : not r ≡ false → next_of (lists_differ f g i from) ≡ next_of (plan_differs f g i from)
      unfolding plan_differs
      plan_lists t = sym (rw (lt-ltb i (plans_in f) (rw p at h), lt-ltb i (plans_in g) (rw q at l), passes e t))

-- from plan to plan
next_front : (l m : List Difference) {d : Difference} → Some d ≡ next_of l → Some d ≡ next_of (l ++ m)
next_front [] m e = let z : ◌≡◌ {A = ℕ} 0 1 = cc in absurd (omega arith)
next_front (x ∷ xs) m e = e

next_back : (l m : List Difference) → None ≡ next_of l → next_of m ≡ next_of (l ++ m)
next_back [] m e = refl
next_back (x ∷ xs) m e = let z : ◌≡◌ {A = ℕ} 0 1 = cc in absurd (omega arith)

module _ (f g : List ℕ) (i p : ℕ) {most : ℕ} (m : most ≡ max (plans_in f) (plans_in g)) where
  pub differ_end : most ≤ i → None ≡ next_of (differ_from f g i p)
  unfolding differ_from some_differ
  differ_end h = sym (rw (let e : max (plans_in f) (plans_in g) - i ≡ 0 = omega arith in e))

  module _ (h : i < most) where
    parts : differ_from f g i p ≡ plan_differs f g i p ++ differ_from f g (i + 1) 0
    unfolding differ_from some_differ
    parts = rw (let e : max (plans_in f) (plans_in g) - i ≡ suc (max (plans_in f) (plans_in g) - (i + 1)) = omega arith in e, add-one i)

    pub differ_found : {d : Difference} → Some d ≡ next_of (plan_differs f g i p) → Some d ≡ next_of (differ_from f g i p)
    differ_found q = next_front (plan_differs f g i p) (differ_from f g (i + 1) 0) q ∙ ap next_of (sym parts)

    pub differ_next : None ≡ next_of (plan_differs f g i p) → next_of (differ_from f g (i + 1) 0) ≡ next_of (differ_from f g i p)
    differ_next q = next_back (plan_differs f g i p) (differ_from f g (i + 1) 0) q ∙ ap next_of (sym parts)
