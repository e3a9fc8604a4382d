-- The form of a plan file in the request's sentences: at most 65,536 bytes; 1 to 16 plans, whose entries lie inside the file; the first list where the header
-- ends, each other where the one before it ends, and the last to the file's end. A file passes the test of the form exactly if it is so.
use Rattle.std.specs.Prelude.{ℕ, zero, suc, ◌+◌, ◌*◌, ◌-◌, ◌≤◌, ◌<◌, true, List, ◌↔◌, ◌≡◌, refl, eqb, length}
use Rattle.std.proofs.Common.{⊎_elim, sym, ap, ◌∙◌, subst, add-zero, add-suc, suc-add, eq-or-lt_of_le, arith, eq-eqb, eqb-true}
use Rattle.laws.specs.Members.{both}
use Rattle.plan_form.specs.Form.{plans_in, entry_place, offset_in, count_in, lists_meet, formed}
use Rattle.plan_form.specs.Meets.{formed_is, by_lists}

pub record PlanFile (f : List ℕ) : Type 0 where
  pub short : length f ≤ 65536
  pub some : 1 ≤ plans_in f
  pub few : plans_in f ≤ 16
  pub header : entry_place (plans_in f) ≤ length f
  pub first_list : offset_in f 0 ≡ entry_place (plans_in f)
  pub no_gap : (i : ℕ) → i + 1 < plans_in f → offset_in f (i + 1) ≡ offset_in f i + 2 * count_in f i
  pub to_the_end : offset_in f (plans_in f - 1) + 2 * count_in f (plans_in f - 1) ≡ length f

-- k + 1 plans from plan i on, the first of whose lists begins at `at`
pub record Chain (f : List ℕ) (k i at : ℕ) : Type 0 where
  pub begins : offset_in f i ≡ at
  pub follows : (j : ℕ) → i ≤ j → j < i + k → offset_in f (j + 1) ≡ offset_in f j + 2 * count_in f j
  pub ends : offset_in f (i + k) + 2 * count_in f (i + k) ≡ length f

meets_chain : (f : List ℕ) (k i at : ℕ) → lists_meet f (suc k) i at ≡ true → Chain f k i at
unfolding lists_meet
meets_chain f zero i at e =
    let p = both (eqb (offset_in f i) at) (eqb (at + 2 * count_in f i) (length f)) e in
    let o = eqb-true (offset_in f i) at p.0 in
    record {
      begins = o;
      follows = λ j a b. absurd (let z : ⊥ = omega arith in z);
      ends = subst (λ (j : ℕ). offset_in f j + 2 * count_in f j ≡ length f) (sym (add-zero i)) (omega (arith, o, eqb-true (at + 2 * count_in f i) (length f) p.1));
    }
meets_chain f (suc k) i at e =
    let p = both (eqb (offset_in f i) at) (lists_meet f (suc k) (suc i) (at + 2 * count_in f i)) e in
    let o = eqb-true (offset_in f i) at p.0 in
    let r = meets_chain f k (suc i) (at + 2 * count_in f i) p.1 in
    record {
      begins = o;
      follows = λ j a b. ⊎_elim
          (λ (q : i ≡ j). subst (λ (x : ℕ). offset_in f (x + 1) ≡ offset_in f x + 2 * count_in f x) q
          (ap (offset_in f) (let z : i + 1 ≡ suc i = omega arith in z) ∙ omega (arith, o, r.begins)))
          (λ q. r.follows j q (omega arith)) (eq-or-lt_of_le a);
      ends = subst (λ (x : ℕ). offset_in f x + 2 * count_in f x ≡ length f) (suc-add i k ∙ sym (add-suc i k)) r.ends;
    }

chain_meets : (f : List ℕ) (k i at : ℕ) → Chain f k i at → lists_meet f (suc k) i at ≡ true
unfolding lists_meet
chain_meets f zero i at c =
    rw (eq-eqb (offset_in f i) at c.begins)
    (eq-eqb (at + 2 * count_in f i) (length f)
    (sym (ap (λ (x : ℕ). x + 2 * count_in f i) c.begins) ∙ subst (λ (j : ℕ). offset_in f j + 2 * count_in f j ≡ length f) (add-zero i) c.ends))
chain_meets f (suc k) i at c =
    rw (eq-eqb (offset_in f i) at c.begins)
    (chain_meets f k (suc i) (at + 2 * count_in f i) (record {
      begins =
          ap (offset_in f) (let z : suc i ≡ i + 1 = omega arith in z) ∙ c.follows i (omega arith) (omega arith)
          ∙ ap (λ (x : ℕ). x + 2 * count_in f i) c.begins;
      follows = λ j a b. c.follows j (omega arith) (omega arith);
      ends = subst (λ (x : ℕ). offset_in f x + 2 * count_in f x ≡ length f) (add-suc i k ∙ sym (suc-add i k)) c.ends;
    }))

-- a file passes the test exactly if it is a plan file
pub formed_exactly : (f : List ℕ) → (formed f ≡ true) ↔ PlanFile f
formed_exactly f = (there, back)
  where
    last : (p : ℕ) → 1 ≤ p → p ≡ suc (p - 1)
    last p h = omega arith

    there : formed f ≡ true → PlanFile f
    there e =
        let z = formed_is f e in
        let c = meets_chain f (plans_in f - 1) 0 (entry_place (plans_in f)) (rw (← last (plans_in f) z.some) z.meet) in
        record {
          short = z.short;
          some = z.some;
          few = z.few;
          header = z.header;
          first_list = c.begins;
          no_gap = λ i h. c.follows i (omega arith) (omega arith);
          to_the_end = subst (λ (x : ℕ). offset_in f x + 2 * count_in f x ≡ length f) (let y : 0 + (plans_in f - 1) ≡ plans_in f - 1 = omega arith in y) c.ends;
        }

    back : PlanFile f → formed f ≡ true
    back z =
        sym (by_lists f z.short (omega (arith, z.header)) refl z.some z.few z.header)
        ∙ subst (λ (k : ℕ). lists_meet f k 0 (entry_place (plans_in f)) ≡ true) (sym (last (plans_in f) z.some))
        (chain_meets f (plans_in f - 1) 0 (entry_place (plans_in f)) (record {
          begins = z.first_list;
          follows = λ j a b. z.no_gap j (omega arith);
          ends = subst (λ (x : ℕ). offset_in f x + 2 * count_in f x ≡ length f) (let y : plans_in f - 1 ≡ 0 + (plans_in f - 1) = omega arith in y) z.to_the_end;
        }))
