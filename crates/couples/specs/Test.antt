-- The tests as they are run: the four numbers below N, what the second test requires, Q by its four cases, and its two answers. Rests on Formula.
use Rattle.std.specs.Prelude.{true, false, ◌⊎◌, ◌≡◌, ℕ, ◌+◌, ◌*◌, ◌/◌, ◌%◌, ◌≤◌, ◌<◌, ltb}
use Rattle.std.proofs.Common.{inl, inr, sym, ◌∙◌, arith}
use Rattle.std.proofs.Math.Path.{ap}
use borrow.Author.Tests.{ltb-true, ltb-false, eq-eqb, ne_eqb}
use Rattle.laws.specs.Members.{both, one_fails}
use Rattle.laws.specs.Euclid.{gcd}
use Rattle.couples.specs.declared.Couples.{Couples}
use Rattle.couples.specs.Formula.{all_below, offset, turn, turns_differ, all_apart}

-- each of the four numbers is below N; or one of them isn't
pub record Below (c : Couples) : Type 0 where
  pub p0_in : c.p0 < c.n
  pub p1_in : c.p1 < c.n
  pub p2_in : c.p2 < c.n
  pub p3_in : c.p3 < c.n

abbrev pub NotBelow : Couples → Type 0
NotBelow c = (c.n ≤ c.p0) ⊎ ((c.n ≤ c.p1) ⊎ ((c.n ≤ c.p2) ⊎ (c.n ≤ c.p3)))

pub not_below : {c : Couples} → Below c → NotBelow c → ⊥
not_below b (inl o) = omega (arith, b.p0_in)
not_below b (inr (inl o)) = omega (arith, b.p1_in)
not_below b (inr (inr (inl o))) = omega (arith, b.p2_in)
not_below b (inr (inr (inr o))) = omega (arith, b.p3_in)

-- as the first test has it
module _ (c : Couples) where
  pub all_below_lem : all_below c ≡ true → Below c
  all_below_lem e =
      let p = both (ltb c.p0 c.n) _ e in
      let q = both (ltb c.p1 c.n) _ p.1 in
      let r = both (ltb c.p2 c.n) _ q.1 in
      record {
        p0_in = ltb-true c.p0 c.n p.0;
        p1_in = ltb-true c.p1 c.n q.0;
        p2_in = ltb-true c.p2 c.n r.0;
        p3_in = ltb-true c.p3 c.n r.1;
      }

  pub one_not_below : all_below c ≡ false → NotBelow c
  one_not_below e =
      one_fails (ltb c.p0 c.n) _ (ltb-false c.p0 c.n)
      (one_fails (ltb c.p1 c.n) _ (ltb-false c.p1 c.n)
      (one_fails (ltb c.p2 c.n) _ (ltb-false c.p2 c.n) (ltb-false c.p3 c.n))) e

-- what the second requires: a block small enough that nothing wraps, and four numbers below N
pub record Numbered (c : Couples) : Type 0 where
  pub size : 0 < c.n
  pub small : c.n < 8192
  pub below : Below c

-- Q by its four cases
module _ (c : Couples) (b : ℕ) where
  pub offset_0 : b ≡ 0 → 1 ≡ offset c b
  unfolding offset
  offset_0 e = rw (eq-eqb b 0 e)

  pub offset_1 : (b ≡ 0 → ⊥) → b ≡ 1 → 1 + c.n / 2 + c.p1 ≡ offset c b
  unfolding offset
  offset_1 z e = rw (ne_eqb b 0 z, eq-eqb b 1 e)

  pub offset_2 : (b ≡ 0 → ⊥) → (b ≡ 1 → ⊥) → b ≡ 2 → 1 + c.p2 ≡ offset c b
  unfolding offset
  offset_2 z o e = rw (ne_eqb b 0 z, ne_eqb b 1 o, eq-eqb b 2 e)

  pub offset_3 : (b ≡ 0 → ⊥) → (b ≡ 1 → ⊥) → (b ≡ 2 → ⊥) → 1 + c.n / 2 + c.p3 ≡ offset c b
  unfolding offset
  offset_3 z o t = rw (ne_eqb b 0 z, ne_eqb b 1 o, ne_eqb b 2 t)

  pub turn_is : {q : ℕ} → q ≡ offset c b → (c.p0 * b + q) % 4 ≡ turn c.p0 (offset c) b
  unfolding turn
  turn_is e = ap (λ (x : ℕ). (c.p0 * b + x) % 4) e

-- the answers
module _ (c : Couples) where
  pub not_alone : {g : ℕ} → g ≡ gcd (c.n / 4) c.p0 → (g ≡ 1 → ⊥) → false ≡ all_apart c
  unfolding all_apart
  not_alone e n = rw (ne_eqb (gcd (c.n / 4) c.p0) 1 (λ q. n (e ∙ q)))

  pub by_turns : {g : ℕ} → g ≡ gcd (c.n / 4) c.p0 → g ≡ 1 → turns_differ c ≡ all_apart c
  unfolding all_apart
  by_turns e q = rw (eq-eqb (gcd (c.n / 4) c.p0) 1 (sym e ∙ q))
