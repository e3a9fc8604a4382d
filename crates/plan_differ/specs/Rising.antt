-- The differences of two files rise: each stands before those behind it, by its plan, and in a plan by its position. So each is listed once.
use Prim.Native.Nat.{ℕ, zero, suc, max, ◌+◌, ◌-◌, ◌≤◌, ◌<◌}
use Rattle.std.specs.Prelude.{Bool, cond, ◌&&◌, List, [], ◌∷◌, ◌++◌, map, ◌⊎◌, ◌≡◌, refl}
use Rattle.std.proofs.Math.Bool.{true, false}
use Rattle.std.proofs.Common.{inl, arith}
use Rattle.std.proofs.Math.Logic.{inr}
use Rattle.std.proofs.Math.Dec.{ltb}
use Rattle.laws.specs.Keep.{keep}
use Rattle.laws.specs.Kept.{passing}
use Rattle.laws.specs.Members.{All, all_join}
use Rattle.plan_form.specs.Form.{plans_in, set_in, list_in}
use Rattle.plan_form.specs.Lists.{wrong, wrongs_from}
use Rattle.plan_differ.specs.declared.Difference.{Difference}
use Rattle.plan_differ.specs.declared.Difference.TheVariants.{Missing, Header, At}
use Rattle.plan_differ.specs.Differences.{same_header, difference_at, lists_differ, plan_differs, some_differ, differ_from, differences}

-- where a difference stands: one of a whole plan at position 0
abbrev pub plan_of : Difference → ℕ
plan_of (Missing plan) = plan
plan_of (Header plan) = plan
plan_of (At plan p a b) = plan

abbrev pub position_of : Difference → ℕ
position_of (Missing plan) = 0
position_of (Header plan) = 0
position_of (At plan p a b) = p

-- one stands before another
abbrev pub Before : Difference → Difference → Type 0
Before d e = (plan_of d < plan_of e) ⊎ ((plan_of d ≡ plan_of e) × (position_of d < position_of e))

-- each stands before those behind it
abbrev pub Rising : List Difference → Type 0
Rising [] = Unit {0}
Rising (d ∷ ds) = All (Before d) ds × Rising ds

all_map : {A B : Type 0} (P : B → Type 0) (Q : A → Type 0) (h : A → B) → ((x : A) → Q x → P (h x)) → (l : List A) → All Q l → All P (map h l)
all_map P Q h f [] a = tt
all_map P Q h f (x ∷ xs) a = (f x a.0, all_map P Q h f xs a.1)

all_same : {A : Type 0} (P Q : A → Type 0) → ((x : A) → P x → Q x) → (l : List A) → All P l → All Q l
all_same P Q f [] a = tt
all_same P Q f (x ∷ xs) a = (f x a.0, all_same P Q f xs a.1)

-- the numbers that pass a test, from c on, are c or more, and rise
from_c : (ok : ℕ → Bool) (c n : ℕ) → All (λ x. c ≤ x) (passing ok c n)
unfolding keep
from_c ok c zero = tt
from_c ok c (suc n) = go (ok c) (all_same (λ x. suc c ≤ x) (λ x. c ≤ x) (λ x h. omega arith) (passing ok (suc c) n) (from_c ok (suc c) n))
  where
    go : (b : Bool) → All (λ x. c ≤ x) (passing ok (suc c) n) → All (λ x. c ≤ x) (cond b (c ∷ passing ok (suc c) n) (passing ok (suc c) n))
    go true a = (omega arith, a)
    go false a = a

module _ (f g : List ℕ) where
  -- positions of one plan
  rising_lists : (i : ℕ) (ok : ℕ → Bool) (c n : ℕ) → Rising (map (difference_at f g i) (passing ok c n))
  unfolding keep
  rising_lists i ok c zero = tt
  rising_lists i ok c (suc n) = go (ok c) (rising_lists i ok (suc c) n)
    where
      go : (b : Bool) → Rising (map (difference_at f g i) (passing ok (suc c) n)) → Rising (map (difference_at f g i) (cond b (c ∷ passing ok (suc c) n) (passing ok (suc c) n)))
      go true r =
          (all_map (Before (difference_at f g i c)) (λ x. suc c ≤ x) (difference_at f g i) (λ x h. inr (refl, h)) (passing ok (suc c) n) (from_c ok (suc c) n), r)
      go false r = r

  -- those of one plan
  rising_plan : (i p : ℕ) → Rising (plan_differs f g i p)
  unfolding plan_differs lists_differ wrongs_from
  rising_plan i p = go (ltb i (plans_in f) && ltb i (plans_in g)) (same_header (set_in f i) (set_in g i))
    where
      go : (a b : Bool) → Rising (cond a (cond b (lists_differ f g i p) (Header (i + 1) ∷ [])) (Missing (i + 1) ∷ []))
      go false b = (tt, tt)
      go true false = (tt, tt)
      go true true = rising_lists i (wrong (list_in f i) (list_in g i)) p _

  of_lists : (i : ℕ) (ps : List ℕ) → All (λ d. plan_of d ≡ i + 1) (map (difference_at f g i) ps)
  of_lists i [] = tt
  of_lists i (p ∷ ps) = (refl, of_lists i ps)

  of_plan : (i p : ℕ) → All (λ d. plan_of d ≡ i + 1) (plan_differs f g i p)
  unfolding plan_differs lists_differ
  of_plan i p = go (ltb i (plans_in f) && ltb i (plans_in g)) (same_header (set_in f i) (set_in g i))
    where
      go : (a b : Bool) → All (λ d. plan_of d ≡ i + 1) (cond a (cond b (lists_differ f g i p) (Header (i + 1) ∷ [])) (Missing (i + 1) ∷ []))
      go false b = (refl, tt)
      go true false = (refl, tt)
      go true true = of_lists i (wrongs_from (list_in f i) (list_in g i) p)

  -- those of later plans
  later : (k i : ℕ) → All (λ d. i + 1 ≤ plan_of d) (some_differ f g k i 0)
  unfolding some_differ
  later zero i = tt
  later (suc k) i =
      all_join (λ d. i + 1 ≤ plan_of d) (plan_differs f g i 0) (some_differ f g k (suc i) 0)
      (all_same (λ d. plan_of d ≡ i + 1) (λ d. i + 1 ≤ plan_of d) (λ d e. omega arith) (plan_differs f g i 0) (of_plan i 0))
      (all_same (λ d. suc i + 1 ≤ plan_of d) (λ d. i + 1 ≤ plan_of d) (λ d h. omega arith) (some_differ f g k (suc i) 0) (later k (suc i)))

  join : (i : ℕ) (ds es : List Difference) → Rising ds → All (λ d. plan_of d ≡ i + 1) ds → Rising es → All (λ d. suc i + 1 ≤ plan_of d) es → Rising (ds ++ es)
  join i [] es r a s b = s
  join i (d ∷ ds) es r a s b =
      let e : plan_of d ≡ i + 1 = a.0 in (
        all_join (Before d) ds es r.0 (all_same (λ x. suc i + 1 ≤ plan_of x) (Before d) (λ x h. inl (omega arith)) es b),
        join i ds es r.1 a.1 s b,
      )

  rising_some : (k i : ℕ) → Rising (some_differ f g k i 0)
  unfolding some_differ
  rising_some zero i = tt
  rising_some (suc k) i =
      join i (plan_differs f g i 0) (some_differ f g k (suc i) 0) (rising_plan i 0) (of_plan i 0) (rising_some k (suc i)) (later k (suc i))

  pub differences_rise : Rising (differences f g)
  unfolding differ_from
  differences_rise = rising_some (max (plans_in f) (plans_in g) - 0) 0
