-- What the numbers of an entry admit is counted out: of bits that are admitted there is a row, no row is empty, and a row has each N that is admitted
-- with its bits. Computed for every entry but the turbo one, where it is shown; no profile of carriers is named. (That what is counted
-- is admitted as well, specs/Listed.antt of sizes shows.) Rests on Profiles and Entered.
use Rattle.std.specs.Prelude.{◌≡◌, refl, Bool, true, false, cond, ◌&&◌, ℕ, ◌+◌, ◌-◌, ◌*◌, ◌/◌, ◌%◌, ◌≤◌, ◌<◌, leb, ltb, eqb}
use Rattle.std.proofs.Common.{ap₂, subst, mul-pos, arith, leb-true, ltb-true, eqb-true}
use Rattle.std.proofs.lemmas.Bool.{false≢true}
use mathlib.Core.List.Memᴰ
use mathlib.Core.List.{List, [], ◌∷◌, map, Memᴰ}
use Rattle.laws.specs.Run.{run, run_mem, mem_run}
use Rattle.laws.specs.Keep.{keep}
use Rattle.laws.specs.Cut.{keep_has}
use Rattle.laws.specs.Members.{both, every, at_each, All, all_tested, by_member, one_of, one_of_lem, multiple_of}
use Rattle.profiles.specs.declared.Form.{Form}
use Rattle.profiles.specs.declared.Form.TheVariants.{Only, Doubled, Multiple, Grouped, Range, Tiered, Fours}
use Rattle.profiles.specs.declared.Admitted.{Admitted}
use Rattle.profiles.specs.Entry.{Row, Entry, some, multiples}
use Rattle.profiles.specs.Profiles.{turbo_sizes, lte_sizes, couple_sizes, turbo, carriers, spatials, quadratics, coupleds, profiles, entry_by}
use Rattle.profiles.specs.Profiles.{group_by, step_by, bits_of, bits_in, doubles, size_in, size_by}
use Rattle.profiles.specs.Entered.{in_profiles, every_profile}

-- a row has each size that is admitted with its bits
abbrev pub HasEach : Admitted → Row → Type 0
HasEach a r = (n : ℕ) → size_by a r.bits n ≡ true → Memᴰ n r.sizes

pub record Counted (q : Entry) : Type 0 where
  pub has_row_lem : (b : ℕ) → bits_in q.admitted b ≡ true → Memᴰ b (map (λ r. r.bits) q.rows)
  pub has_size : every (λ r. some r.sizes) q.rows ≡ true
  pub has_each : All (HasEach q.admitted) q.rows

-- the sizes of a form, counted out
abbrev form_sizes : Form → ℕ → ℕ → ℕ → List ℕ
form_sizes Only u m b = u * b ∷ []
form_sizes Doubled u m b = doubles (u * b)
form_sizes Multiple u m b = multiples (u * b) (m / (u * b))
form_sizes Grouped u m b = multiples (u * group_by b) (m / (u * group_by b))
form_sizes Range u m b = run (λ j. u + j) 0 (m + 1 - u)
form_sizes Tiered u m b = keep (λ j. 8 * j) (size_in Tiered u m b) (u / 8) (m / 8 + 1 - u / 8)
form_sizes Fours u m b = run (λ j. 4 * j) (u / 4) (m / 4 + 1 - u / 4)

group_pos : (b : ℕ) → 0 < group_by b
group_pos b = go (eqb b 6) (eqb b 4)
  where
    go : (s t : Bool) → 0 < cond s 3 (cond t 2 1)
    go true t = omega arith
    go false true = omega arith
    go false false = omega arith

-- every step is a multiple of 8
by_eights : (n : ℕ) → n % step_by n ≡ 0 → n % 8 ≡ 0
by_eights n e = go (leb n 512) (leb n 1024) (leb n 2048) e
  where
    go : (a b c : Bool) → n % cond a 8 (cond b 16 (cond c 32 64)) ≡ 0 → n % 8 ≡ 0
    go true b c e = e
    go false true c e = omega arith
    go false false true e = omega arith
    go false false false e = omega arith

in_form : (f : Form) (u m b n : ℕ) → 0 < u → 0 < b → size_in f u m b n ≡ true → Memᴰ n (form_sizes f u m b)
in_form Only u m b n hu hb e = Memᴰ.head (eqb-true n (u * b) e)
in_form Doubled u m b n hu hb e = one_of_lem n (doubles (u * b)) e
in_form Multiple u m b n hu hb e = multiple_of (u * b) m n (mul-pos hu hb) e
in_form Grouped u m b n hu hb e = multiple_of (u * group_by b) m n (mul-pos hu (group_pos b)) e
in_form Range u m b n hu hb e =
    let q = both (leb u n) (leb n m) e in
    let lo = leb-true u n q.0 in
    let hi = leb-true n m q.1 in
    Memᴰ.cast {a = n} (omega arith) (run_mem (λ j. u + j) 0 (m + 1 - u) (n - u) (omega arith) (omega arith))
in_form Tiered u m b n hu hb e =
    let q = both (leb u n) _ e in
    let r = both (leb n m) _ q.1 in
    let lo = leb-true u n q.0 in
    let hi = leb-true n m r.0 in
    let w : n ≡ 8 * (n / 8) = omega (arith, by_eights n (eqb-true (n % step_by n) 0 r.1)) in
    Memᴰ.cast {a = n} w
    (keep_has (λ j. 8 * j) (size_in Tiered u m b) (u / 8) (m / 8 + 1 - u / 8) (n / 8) (omega arith) (omega arith)
    (subst (λ (x : ℕ). size_in Tiered u m b x ≡ true) w e))
in_form Fours u m b n hu hb e =
    let q = both (leb u n) _ e in
    let r = both (leb n m) _ q.1 in
    let lo = leb-true u n q.0 in
    let hi = leb-true n m r.0 in
    let w : n ≡ 4 * (n / 4) = omega (arith, eqb-true (n % 4) 0 r.1) in
    Memᴰ.cast {a = n} w (run_mem (λ j. 4 * j) (u / 4) (m / 4 + 1 - u / 4) (n / 4) (omega arith) (omega arith))

-- lists that are the same, as a test
same_list : List ℕ → List ℕ → Bool
same_list [] [] = true
same_list [] (y ∷ ys) = false
same_list (x ∷ xs) [] = false
same_list (x ∷ xs) (y ∷ ys) = eqb x y && same_list xs ys

same_list_lem : (xs ys : List ℕ) → same_list xs ys ≡ true → xs ≡ ys
unfolding same_list
same_list_lem [] [] e = refl
same_list_lem [] (y ∷ ys) e = absurd (false≢true e)
same_list_lem (x ∷ xs) [] e = absurd (false≢true e)
same_list_lem (x ∷ xs) (y ∷ ys) e = let p = both (eqb x y) (same_list xs ys) e in ap₂ (λ (x : ℕ) (xs : List ℕ). x ∷ xs) (eqb-true x y p.0) (same_list_lem xs ys p.1)

-- what is computed of a row and of an entry: its sizes are those of the form, and bits that are admitted have a row
row_counted : Admitted → Row → Bool
row_counted a r = ltb 0 r.bits && same_list (form_sizes a.form a.unit a.limit r.bits) r.sizes

has_row : Entry → ℕ → Bool
has_row q b = one_of b (map (λ r. r.bits) q.rows)

counted : Entry → Bool
counted q =
    every (has_row q) (bits_of q.admitted.bits)
    && (every (λ r. some r.sizes) q.rows && (ltb 0 q.admitted.unit && every (row_counted q.admitted) q.rows))

row_has_each : (a : Admitted) (r : Row) → 0 < a.unit → row_counted a r ≡ true → HasEach a r
unfolding row_counted
row_has_each a r hu e n h =
    let p = both (ltb 0 r.bits) _ e in
    subst (λ (l : List ℕ). Memᴰ n l) (same_list_lem _ r.sizes p.1)
    (in_form a.form a.unit a.limit r.bits n hu (ltb-true 0 r.bits p.0) h)

counted_holds : (q : Entry) → counted q ≡ true → Counted q
unfolding counted has_row
counted_holds q e =
    let t = both (every (has_row q) (bits_of q.admitted.bits)) _ e in
    let v = both (every (λ r. some r.sizes) q.rows) _ t.1 in
    let w = both (ltb 0 q.admitted.unit) _ v.1 in
    record {
      has_row_lem = λ b h. one_of_lem b _ (at_each (has_row q) (bits_of q.admitted.bits) t.0 (one_of_lem b (bits_of q.admitted.bits) h));
      has_size = v.0;
      has_each = all_tested (row_counted q.admitted) (λ r. row_has_each q.admitted r (ltb-true 0 q.admitted.unit w.0)) q.rows w.1;
    }

carriers_counted : every counted carriers ≡ true
unfolding counted has_row row_counted same_list
carriers_counted = refl

spatials_counted : every counted spatials ≡ true
unfolding counted has_row row_counted same_list
spatials_counted = refl

quadratics_counted : every counted quadratics ≡ true
unfolding counted has_row row_counted same_list lte_sizes keep
quadratics_counted = refl

coupleds_counted : every counted coupleds ≡ true
unfolding counted has_row row_counted same_list couple_sizes
coupleds_counted = refl

-- the sizes of the turbo profile are 40 to 5,114
pub turbo_range : {n : ℕ} → Memᴰ n turbo_sizes → (40 ≤ n) × (n ≤ 5114)
unfolding turbo_sizes
turbo_range m = let r = mem_run (λ j. 40 + j) 0 5075 m in (omega (arith, r.3), omega (arith, r.2, r.3))

turbo_counted : Counted turbo
unfolding turbo_sizes
turbo_counted = record {
  has_row_lem = λ b. one_of_lem b (1 ∷ []);
  has_size = refl;
  has_each = (λ n e. in_form Range 40 5114 1 n (omega arith) (omega arith) e, tt);
}

all_counted : All Counted profiles
all_counted = every_profile Counted counted counted_holds carriers_counted turbo_counted spatials_counted quadratics_counted coupleds_counted

-- so of the entry of every number
pub entry_counted : (p : ℕ) → Counted (entry_by p)
entry_counted p = by_member Counted profiles all_counted (in_profiles p)
