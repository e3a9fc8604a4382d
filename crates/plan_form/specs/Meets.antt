-- The loop over a header, the tests of a file one after the other, and what a file of the form is: every entry and every list lies inside it.
use Rattle.std.specs.Prelude.{ℕ, zero, suc, ◌+◌, ◌*◌, ◌-◌, ◌≤◌, ◌<◌, true, false, ◌&&◌, List, ◌≡◌, eqb, leb, length}
use Rattle.std.proofs.Common.{⊎_elim, ◌∙◌, subst, eq-or-lt_of_le}
use Rattle.std.proofs.Math.Path.{sym, ap}
use Rattle.std.proofs.Math.Numerals.{add-one}
use Rattle.std.proofs.Math.Nat.{sub-zero}
use native.Mathlib.Omega.{arith}
use borrow.Author.Tests.{eq-eqb, ne_eqb, le-leb, lt-leb, leb-true, eqb-true}
use Rattle.laws.specs.Members.{both}
use Rattle.plan_form.specs.Form.{plans_in, entry_place, offset_in, count_in, lists_meet, formed}

-- the loop over a header: the lists of the plans before i meet, and the next is to begin at `at`
pub record Meeting (f : List ℕ) (plans at i : ℕ) : Type 0 where
  pub here : i ≤ plans
  -- (324 is the longest header, 8,589,934,590 twice the largest number of 32 bits)
  pub small : at ≤ 324 + 8589934590 * i
  pub same : lists_meet f (plans - i) i at ≡ lists_meet f plans 0 (entry_place plans)

pub meet_first : (f : List ℕ) (plans : ℕ) → plans ≤ 16 → Meeting f plans (entry_place plans) 0
meet_first f plans h = record { here = omega arith; small = omega arith; same = rw sub-zero }

module _ {f : List ℕ} {plans at i : ℕ} (m : Meeting f plans at i) where
  pub meet_end : plans ≤ i → eqb at (length f) ≡ lists_meet f plans 0 (entry_place plans)
  unfolding lists_meet
  meet_end h = let e : plans - i ≡ 0 = omega arith in sym (ap (λ (k : ℕ). lists_meet f k i at) e) ∙ m.same

  module _ (h : i < plans) {v : ℕ} (q : v ≡ offset_in f i) where
    one_more : plans - i ≡ suc (plans - (i + 1))
    one_more = omega arith

    pub meet_apart : (v ≡ at → ⊥) → false ≡ lists_meet f plans 0 (entry_place plans)
    unfolding lists_meet
    meet_apart n = sym (rw one_more (rw (ne_eqb (offset_in f i) at (λ e. n (q ∙ e))))) ∙ m.same

    pub meet_more : v ≡ at → {w : ℕ} → w ≡ count_in f i → w < 4294967296 → Meeting f plans (at + 2 * w) (i + 1)
    unfolding lists_meet
    meet_more e {w} c l =
        record {
          here = omega arith;
          small = omega (arith, m.small);
          same = ap (λ (x : ℕ). lists_meet f (plans - (i + 1)) (i + 1) (at + 2 * x)) c ∙ sym (rw (one_more, add-one i) (rw (eq-eqb (offset_in f i) at (sym q ∙ e)))) ∙ m.same;
        }

-- the tests of a file, one after the other
module _ (f : List ℕ) where
  pub too_long : 65536 < length f → false ≡ formed f
  unfolding formed
  too_long h = simp (lt-leb (length f) 65536 h)

  module _ (h : length f ≤ 65536) where
    pub too_short : length f < 4 → false ≡ formed f
    unfolding formed
    too_short l = simp (le-leb (length f) 65536 h, lt-leb 4 (length f) l)

    module _ (l : 4 ≤ length f) {v : ℕ} (q : v ≡ plans_in f) where
      pub no_plan : v < 1 → false ≡ formed f
      unfolding formed
      no_plan w = simp (le-leb (length f) 65536 h, le-leb 4 (length f) l, lt-leb 1 (plans_in f) (rw q at w))

      module _ (one : 1 ≤ v) where
        pub many_plans : 16 < v → false ≡ formed f
        unfolding formed
        many_plans w = simp (le-leb (length f) 65536 h, le-leb 4 (length f) l, le-leb 1 (plans_in f) (rw q at one), lt-leb (plans_in f) 16 (rw q at w))

        module _ (few : v ≤ 16) where
          pub header_cut : length f < entry_place v → false ≡ formed f
          unfolding formed
          header_cut w =
              simp (
                le-leb (length f) 65536 h,
                le-leb 4 (length f) l,
                le-leb 1 (plans_in f) (rw q at one),
                le-leb (plans_in f) 16 (rw q at few),
                lt-leb (entry_place (plans_in f)) (length f) (rw q at w),
              )

          pub by_lists : entry_place v ≤ length f → lists_meet f v 0 (entry_place v) ≡ formed f
          unfolding formed
          by_lists w =
              ap (λ (x : ℕ). lists_meet f x 0 (entry_place x)) q
              ∙ sym (simp (
                le-leb (length f) 65536 h,
                le-leb 4 (length f) l,
                le-leb 1 (plans_in f) (rw q at one),
                le-leb (plans_in f) 16 (rw q at few),
                le-leb (entry_place (plans_in f)) (length f) (rw q at w),
              ))

-- what a file of the form is
pub record Formed (f : List ℕ) : Type 0 where
  pub short : length f ≤ 65536
  pub some : 1 ≤ plans_in f
  pub few : plans_in f ≤ 16
  pub header : entry_place (plans_in f) ≤ length f
  pub meet : lists_meet f (plans_in f) 0 (entry_place (plans_in f)) ≡ true

pub formed_is : (f : List ℕ) → formed f ≡ true → Formed f
unfolding formed
formed_is f e =
    let t₅ = lists_meet f (plans_in f) 0 (entry_place (plans_in f)) in
    let t₄ = leb (entry_place (plans_in f)) (length f) && t₅ in
    let t₃ = leb (plans_in f) 16 && t₄ in
    let t₂ = leb 1 (plans_in f) && t₃ in
    let a = both (leb (length f) 65536) (leb 4 (length f) && t₂) e in
    let b = both (leb 4 (length f)) t₂ a.1 in
    let c = both (leb 1 (plans_in f)) t₃ b.1 in
    let d = both (leb (plans_in f) 16) t₄ c.1 in
    let g = both (leb (entry_place (plans_in f)) (length f)) t₅ d.1 in
    record {
      short = leb-true (length f) 65536 a.0;
      some = leb-true 1 (plans_in f) c.0;
      few = leb-true (plans_in f) 16 d.0;
      header = leb-true (entry_place (plans_in f)) (length f) g.0;
      meet = g.1;
    }

-- where lists meet, each lies inside the file
pub meets-low : (f : List ℕ) (k i at : ℕ) → lists_meet f k i at ≡ true → at ≤ length f
unfolding lists_meet
meets-low f zero i at e = omega (arith, eqb-true at (length f) e)
meets-low f (suc k) i at e = omega (arith, meets-low f k (suc i) (at + 2 * count_in f i) (both (eqb (offset_in f i) at) (lists_meet f k (suc i) (at + 2 * count_in f i)) e).1)

pub meets-inside : (f : List ℕ) (k i at j : ℕ) → lists_meet f k i at ≡ true → i ≤ j → j < i + k → offset_in f j + 2 * count_in f j ≤ length f
unfolding lists_meet
meets-inside f zero i at j e h l = absurd (let z : ⊥ = omega arith in z)
meets-inside f (suc k) i at j e h l =
    let p = both (eqb (offset_in f i) at) (lists_meet f k (suc i) (at + 2 * count_in f i)) e in
    ⊎_elim
    (λ (q : i ≡ j). subst (λ (x : ℕ). offset_in f x + 2 * count_in f x ≤ length f) q (omega (arith, eqb-true (offset_in f i) at p.0, meets-low f k (suc i) (at + 2 * count_in f i) p.1)))
    (λ q. meets-inside f k (suc i) (at + 2 * count_in f i) j p.1 q (omega arith))
    (eq-or-lt_of_le h)

module _ {f : List ℕ} (z : Formed f) (i : ℕ) (h : i < plans_in f) where
  pub entry_inside : entry_place i + 20 ≤ length f
  entry_inside = omega (arith, z.header)

  pub list_inside : offset_in f i + 2 * count_in f i ≤ length f
  list_inside = meets-inside f (plans_in f) 0 (entry_place (plans_in f)) i z.meet (omega arith) (omega arith)
