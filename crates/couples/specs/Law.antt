-- No two outputs share a couple exactly where the test passes, for every N above 0 that is a multiple of 4, and so for every listed N. Then P and M
-- undo each other, and the laws of a rule without padding hold. Rests on Four.
use Rattle.std.specs.Prelude.{true, false, not, ◌≡◌, refl, ℕ, zero, suc, ◌+◌, ◌*◌, ◌/◌, ◌%◌, ◌<◌, eqb}
use Rattle.std.proofs.Common.{sym, arith, eqb-true, eq-eqb, ne_eqb}
use Rattle.std.proofs.Math.Path.{subst}
use Rattle.std.proofs.Math.Nat.{mod-lt}
use Rattle.std.proofs.lemmas.Bool.{eqb-false, not-true}
use Rattle.laws.specs.Perm.{Perm}
use Rattle.laws.specs.Members.{both}
use Rattle.laws.specs.Residue.{whole}
use Rattle.laws.specs.Euclid.{gcd, coprime}
use Rattle.laws.specs.Shared.{OneToOne, from_distance, Shared, failed_shared, shared_failed, run_perm}
use Rattle.laws.specs.Walk.{Lawful, bare_lawful}
use Rattle.couples.specs.declared.Couples.{Couples}
use Rattle.couples.specs.Formula.{offset, couple_l, couple_m, coupled_rule, turn, differ, turns_differ, all_apart}
use Rattle.couples.specs.Four.{place, four_apart, p0_alone, turns_differ_lem}

-- the six comparisons say that a rule is one-to-one below 4
module _ (t : ℕ → ℕ) where
  pub differ_apart : differ (t 0) (t 1) (t 2) (t 3) ≡ true → OneToOne t 4
  differ_apart e =
      let p = both (not (eqb (t 0) (t 1))) _ e in
      let q = both (not (eqb (t 0) (t 2))) _ p.1 in
      let r = both (not (eqb (t 0) (t 3))) _ q.1 in
      let u = both (not (eqb (t 1) (t 2))) _ r.1 in
      let v = both (not (eqb (t 1) (t 3))) _ u.1 in
      from_distance t 4 (go (no 0 1 p.0) (no 0 2 q.0) (no 0 3 r.0) (no 1 2 u.0) (no 1 3 v.0) (no 2 3 v.1))
    where
      no : (a b : ℕ) → not (eqb (t a) (t b)) ≡ true → t a ≡ t b → ⊥
      no a b n = eqb-false (t a) (t b) (not-true (eqb (t a) (t b)) n)

      go : (t 0 ≡ t 1 → ⊥) → (t 0 ≡ t 2 → ⊥) → (t 0 ≡ t 3 → ⊥) → (t 1 ≡ t 2 → ⊥) → (t 1 ≡ t 3 → ⊥) → (t 2 ≡ t 3 → ⊥)
          → (x d : ℕ) → x + d < 4 → t x ≡ t (x + d) → d ≡ 0
      go p q r u v w x zero h e = refl
      go p q r u v w zero (suc zero) h e = absurd (p e)
      go p q r u v w zero (suc (suc zero)) h e = absurd (q e)
      go p q r u v w zero (suc (suc (suc zero))) h e = absurd (r e)
      go p q r u v w zero (suc (suc (suc (suc d)))) h e = absurd (omega arith)
      go p q r u v w (suc zero) (suc zero) h e = absurd (u e)
      go p q r u v w (suc zero) (suc (suc zero)) h e = absurd (v e)
      go p q r u v w (suc zero) (suc (suc (suc d))) h e = absurd (omega arith)
      go p q r u v w (suc (suc zero)) (suc zero) h e = absurd (w e)
      go p q r u v w (suc (suc zero)) (suc (suc d)) h e = absurd (omega arith)
      go p q r u v w (suc (suc (suc x))) (suc d) h e = absurd (omega arith)

  pub apart_differ : OneToOne t 4 → differ (t 0) (t 1) (t 2) (t 3) ≡ true
  apart_differ o =
      rw (
        no 0 1 (omega arith) (omega arith) (λ e. omega arith),
        no 0 2 (omega arith) (omega arith) (λ e. omega arith),
        no 0 3 (omega arith) (omega arith) (λ e. omega arith),
        no 1 2 (omega arith) (omega arith) (λ e. omega arith),
        no 1 3 (omega arith) (omega arith) (λ e. omega arith),
        no 2 3 (omega arith) (omega arith) (λ e. omega arith),
      )
    where
      no : (a b : ℕ) → a < 4 → b < 4 → (a ≡ b → ⊥) → eqb (t a) (t b) ≡ false
      no a b h l n = ne_eqb (t a) (t b) (λ e. n (o a b h l e))

module _ (c : Couples) (hn : 0 < c.n) where
  pub couple_below : (j : ℕ) → couple_l c j < c.n
  unfolding couple_l
  couple_below j = mod-lt (c.p0 * j + offset c (j % 4)) hn

  module _ (four : c.n % 4 ≡ 0) where
    quarter : 0 < c.n / 4
    quarter = let w = whole 4 c.n four in omega arith

    -- the test is enough ..
    pub passed_apart : all_apart c ≡ true → OneToOne (couple_l c) c.n
    unfolding all_apart turns_differ couple_l place
    passed_apart e =
        let p = both (eqb (gcd (c.n / 4) c.p0) 1) _ e in
        subst (λ (m : ℕ). OneToOne (place m c.p0 (offset c)) m) (sym (whole 4 c.n four))
        (four_apart (c.n / 4) c.p0 (offset c) quarter (coprime (c.n / 4) c.p0 quarter (eqb-true (gcd (c.n / 4) c.p0) 1 p.0))
        (differ_apart (turn c.p0 (offset c)) p.1))

    -- .. and needed
    pub apart_passed : OneToOne (couple_l c) c.n → all_apart c ≡ true
    unfolding all_apart turns_differ couple_l place
    apart_passed o =
        let o4 = subst (λ (m : ℕ). OneToOne (place m c.p0 (offset c)) m) (whole 4 c.n four) o in
        let g = p0_alone (c.n / 4) c.p0 (offset c) quarter o4 in
        rw (eq-eqb (gcd (c.n / 4) c.p0) 1 g)
        (apart_differ (turn c.p0 (offset c)) (turns_differ_lem (c.n / 4) c.p0 (offset c) quarter o4 (coprime (c.n / 4) c.p0 quarter g)))

    -- each couple is used once
    pub couples_once : all_apart c ≡ true → Perm c.n (couple_l c) (couple_m c)
    unfolding couple_m
    couples_once e = run_perm (couple_l c) c.n (λ j h. couple_below j) (passed_apart e)

    pub coupled_lawful : c.n < 65536 → all_apart c ≡ true → Lawful c.n (coupled_rule c)
    coupled_lawful small e = bare_lawful (couples_once e) small

    -- where it fails two outputs share a couple, and only there
    pub failed_two : all_apart c ≡ false → Shared (couple_l c) c.n
    failed_two = failed_shared (couple_l c) c.n (all_apart c) passed_apart apart_passed

    pub two_failed : Shared (couple_l c) c.n → all_apart c ≡ false
    two_failed = shared_failed (couple_l c) c.n (all_apart c) passed_apart apart_passed
