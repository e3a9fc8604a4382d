-- Parts that follow each other without gaps: the first begins at a place, each other where the one before it ends, and the last ends at the end. The test of it,
-- what it says, and that such parts lie apart. Over any rule of offsets and sizes.
use Prim.Native.Nat.{ℕ, zero, suc, ◌+◌, ◌-◌, ◌≤◌, ◌<◌}
use Rattle.std.specs.Prelude.{Bool, true, false, ◌&&◌, ◌≡◌, eqb}
use Rattle.std.proofs.Math.Logic.{⊎_elim}
use Rattle.std.proofs.Math.Path.{sym, ap, subst}
use Rattle.std.proofs.Common.{◌∙◌, add-zero, add-suc, suc-add, eq-or-lt_of_le}
use Rattle.std.proofs.Math.Numerals.{add-one}
use native.Mathlib.Omega.{arith}
use borrow.Author.Tests.{eq-eqb, ne_eqb, eqb-true}
use Rattle.laws.specs.Members.{both}

-- k parts from part i on, the first of which is to begin at `at`
unfoldable pub meet : (ℕ → ℕ) → (ℕ → ℕ) → ℕ → ℕ → ℕ → ℕ → Bool
meet offset size end zero i at = eqb at end
meet offset size end (suc k) i at = eqb (offset i) at && meet offset size end k (suc i) (at + size i)

module _ (offset size : ℕ → ℕ) (end : ℕ) where
  -- k + 1 parts from part i on, in sentences
  pub record Chain (k i at : ℕ) : Type 0 where
    pub begins : offset i ≡ at
    pub follows : (j : ℕ) → i ≤ j → j < i + k → offset (j + 1) ≡ offset j + size j
    pub ends : offset (i + k) + size (i + k) ≡ end

  pub meets_chain : (k i at : ℕ) → meet offset size end (suc k) i at ≡ true → Chain k i at
  unfolding meet
  meets_chain zero i at e =
      let p = both (eqb (offset i) at) (eqb (at + size i) end) e in
      let o = eqb-true (offset i) at p.0 in
      record {
        begins = o;
        follows = λ j a b. absurd (let z : ⊥ = omega arith in z);
        ends = subst (λ (j : ℕ). offset j + size j ≡ end) (sym (add-zero i)) (omega (arith, o, eqb-true (at + size i) end p.1));
      }
  meets_chain (suc k) i at e =
      let p = both (eqb (offset i) at) (meet offset size end (suc k) (suc i) (at + size i)) e in
      let o = eqb-true (offset i) at p.0 in
      let r = meets_chain k (suc i) (at + size i) p.1 in
      record {
        begins = o;
        follows = λ j a b. ⊎_elim
            (λ (q : i ≡ j). subst (λ (x : ℕ). offset (x + 1) ≡ offset x + size x) q
            (ap offset (let z : i + 1 ≡ suc i = omega arith in z) ∙ omega (arith, o, r.begins)))
            (λ q. r.follows j q (omega arith)) (eq-or-lt_of_le a);
        ends = subst (λ (x : ℕ). offset x + size x ≡ end) (suc-add i k ∙ sym (add-suc i k)) r.ends;
      }

  pub chain_meets : (k i at : ℕ) → Chain k i at → meet offset size end (suc k) i at ≡ true
  unfolding meet
  chain_meets zero i at c =
      rw (eq-eqb (offset i) at c.begins)
      (eq-eqb (at + size i) end
      (sym (ap (λ (x : ℕ). x + size i) c.begins) ∙ subst (λ (j : ℕ). offset j + size j ≡ end) (add-zero i) c.ends))
  chain_meets (suc k) i at c =
      rw (eq-eqb (offset i) at c.begins)
      (chain_meets k (suc i) (at + size i) (record {
        begins =
            ap offset (let z : suc i ≡ i + 1 = omega arith in z) ∙ c.follows i (omega arith) (omega arith)
            ∙ ap (λ (x : ℕ). x + size i) c.begins;
        follows = λ j a b. c.follows j (omega arith) (omega arith);
        ends = subst (λ (x : ℕ). offset x + size x ≡ end) (add-suc i k ∙ sym (suc-add i k)) c.ends;
      }))

  -- n parts, one at least, in the sentences of a request
  pub record Gapless (n at : ℕ) : Type 0 where
    pub first_part : offset 0 ≡ at
    pub no_gap : (i : ℕ) → i + 1 < n → offset (i + 1) ≡ offset i + size i
    pub to_the_end : offset (n - 1) + size (n - 1) ≡ end

  last : (n : ℕ) → 1 ≤ n → n ≡ suc (n - 1)
  last n h = omega arith

  pub meets_gapless : (n at : ℕ) → 1 ≤ n → meet offset size end n 0 at ≡ true → Gapless n at
  meets_gapless n at h e =
      let c = meets_chain (n - 1) 0 at (rw (← last n h) e) in
      record {
        first_part = c.begins;
        no_gap = λ i l. c.follows i (omega arith) (omega arith);
        to_the_end = subst (λ (x : ℕ). offset x + size x ≡ end) (let y : 0 + (n - 1) ≡ n - 1 = omega arith in y) c.ends;
      }

  pub gapless_meets : (n at : ℕ) → 1 ≤ n → Gapless n at → meet offset size end n 0 at ≡ true
  gapless_meets n at h g =
      subst (λ (k : ℕ). meet offset size end k 0 at ≡ true) (sym (last n h))
      (chain_meets (n - 1) 0 at (record {
        begins = g.first_part;
        follows = λ j a b. g.no_gap j (omega arith);
        ends = subst (λ (x : ℕ). offset x + size x ≡ end) (let y : n - 1 ≡ 0 + (n - 1) = omega arith in y) g.to_the_end;
      }))

  -- such parts: none begins before the first place, each ends before the next begins, and all lie before the end
  module _ {n at : ℕ} (g : Gapless n at) where
    pub apart : (i d : ℕ) → i + suc d < n → offset i + size i ≤ offset (i + suc d)
    apart i zero h = rw (let e : i + 1 ≡ i + suc zero = omega arith in ap offset (sym e)) (omega (arith, g.no_gap i (omega arith)))
    apart i (suc d) h =
        let e : i + suc (suc d) ≡ i + suc d + 1 = omega arith in
        rw (ap offset e) (omega (arith, g.no_gap (i + suc d) (omega arith), apart i d (omega arith)))

    pub before : (i j : ℕ) → i < j → j < n → offset i + size i ≤ offset j
    before i j h l =
        let e : i + suc (j - suc i) ≡ j = omega arith in
        rw (← ap offset e) (apart i (j - suc i) (omega arith))

    pub from_the_first : (i : ℕ) → i < n → at ≤ offset i
    from_the_first zero h = omega (arith, g.first_part)
    from_the_first (suc i) h = omega (arith, g.first_part, before 0 (suc i) (omega arith) h)

    pub inside : (i : ℕ) → i < n → offset i + size i ≤ end
    inside i h = ⊎_elim
        (λ (q : i ≡ n - 1). rw q (omega (arith, g.to_the_end)))
        (λ l. omega (arith, before i (n - 1) l (omega arith), g.to_the_end))
        (eq-or-lt_of_le (let z : i ≤ n - 1 = omega arith in z))

-- the test as a loop has it: the parts before part i meet, and the next is to begin at `at`
module _ (offset size : ℕ → ℕ) (end n i at : ℕ) where
  pub meet_none : n ≤ i → eqb at end ≡ meet offset size end (n - i) i at
  unfolding meet
  meet_none h = let e : n - i ≡ 0 = omega arith in sym (ap (λ (k : ℕ). meet offset size end k i at) e)

  pub meet_apart : i < n → (offset i ≡ at → ⊥) → meet offset size end (n - i) i at ≡ false
  unfolding meet
  meet_apart h d = rw (let e : n - i ≡ suc (n - (i + 1)) = omega arith in e) (rw (ne_eqb (offset i) at d))

  pub meet_more : i < n → offset i ≡ at → meet offset size end (n - (i + 1)) (i + 1) (at + size i) ≡ meet offset size end (n - i) i at
  unfolding meet
  meet_more h e = sym (rw (let z : n - i ≡ suc (n - (i + 1)) = omega arith in z, add-one i) (rw (eq-eqb (offset i) at e)))
