-- The differences of two files, in file order: plan by plan, and in a plan position by position. These are definitions; plans are counted from 0 in what
-- is asked, and from 1 in a difference.
use Rattle.std.specs.Prelude.{ℕ, zero, suc, max, ◌+◌, ◌-◌, Bool, cond, ◌&&◌, List, [], ◌∷◌, ◌++◌, map, eqb, ltb, Option, Some, None}
use Rattle.sets.specs.declared.Set.{Set}
use Rattle.plan_form.specs.Form.{plans_in, set_in, list_in}
use Rattle.plan_form.specs.Lists.{wrongs_from, place_of}
use Rattle.plan_differ.specs.declared.Difference.{Difference}
use Rattle.plan_differ.specs.declared.Difference.TheVariants.{Missing, Header, At}

-- profile, bits and N are the same
unfoldable pub same_header : Set → Set → Bool
same_header s t = eqb s.profile t.profile && (eqb s.bits t.bits && eqb s.n t.n)

module _ (f g : List ℕ) where
  -- the difference at a position of a plan: what stands there in each file
  abbrev pub difference_at : ℕ → ℕ → Difference
  difference_at i p = At (i + 1) p (place_of (list_in f i) p) (place_of (list_in g i) p)

  -- those of the lists of a plan, from a position on, below the larger count
  unfoldable pub lists_differ : ℕ → ℕ → List Difference
  lists_differ i p = map (difference_at i) (wrongs_from (list_in f i) (list_in g i) p)

  -- those of a plan, from a position on. One that is of the whole plan stands at every position of it
  unfoldable pub plan_differs : ℕ → ℕ → List Difference
  plan_differs i p =
      cond (ltb i (plans_in f) && ltb i (plans_in g))
      (cond (same_header (set_in f i) (set_in g i)) (lists_differ i p) (Header (i + 1) ∷ []))
      (Missing (i + 1) ∷ [])

  -- those of k plans from plan i on, from position p of that plan on
  unfoldable pub some_differ : ℕ → ℕ → ℕ → List Difference
  some_differ zero i p = []
  some_differ (suc k) i p = plan_differs i p ++ some_differ k (suc i) 0

  -- those of two files from a place on; all of them
  unfoldable pub differ_from : ℕ → ℕ → List Difference
  differ_from i p = some_differ (max (plans_in f) (plans_in g) - i) i p

  abbrev pub differences : List Difference
  differences = differ_from 0 0

-- the first of a list, if it has one
abbrev pub next_of : {A : Type 0} → List A → Option A
next_of [] = None
next_of (x ∷ xs) = Some x
