-- `next_q` is the next q. Invariants: what the search gives from here on is what it gives from the start, so that q is below 89; and whether the
-- candidate is a prime is the test with the divisors that are left.
use Prim.Native.Nat.{ℕ, ◌%◌, ◌+◌, ◌-◌, ◌<◌, ◌≤◌, suc}
use mathlib.Core.Path.{◌∙◌, ◌≡◌, sym}
use native.Mathlib.Omega.{arith}
use Rattle.wcdma_setup.proofs.Search.{below_farthest, candidate_low, candidate_odd, next_composite, next_found, next_shared, odd_end, odd_found, odd_not, odd_prime, search_on, small_root}
use Rattle.wcdma_setup.specs.Numbers.{farthest, next_in, next_q}
use Rattle.wcdma_setup.proofs.next_q.Goals as goal

-- the search finds something, so it stands below the farthest number, and the candidate behind that is small and odd
module _ (m last q : ℕ) (some : next_q m last ≡ 0 → ⊥) (e : next_q m last ≡ next_in m (suc q) (farthest - q)) where
  below : q < farthest
  below = below_farthest m q (λ z. some (e ∙ z))

  module _ (h : 5 ≤ q) (o : q % 2 ≡ 1) where
    small : q + 2 < 90
    small = candidate_low 0 q h below o

    odd : (q + 2) % 2 ≡ 1
    odd = candidate_odd 0 q h below o

pub candidates-init : goal.candidates-init
candidates-init c = (search_on c.args.m c.args.last c.requires.high, c.requires.high, c.requires.odd)

pub overflow_add-q : goal.overflow_add-q
overflow_add-q c = omega (arith, below c.args.m c.args.last c.candidates.q c.requires.some c.candidates.invariant.0)

pub loop-d-init : goal.loop-d-init
loop-d-init c =
    let i = c.candidates.invariant in
    (odd_prime (c.candidates.q + 2) (omega (arith, i.1)) (small c.args.m c.args.last c.candidates.q c.requires.some i.0 i.1 i.2) (odd c.args.m c.args.last c.candidates.q c.requires.some i.0 i.1 i.2), omega arith, omega arith)

pub candidates-smaller-then-q-d-eq0 : goal.candidates-smaller-then-q-d-eq0
candidates-smaller-then-q-d-eq0 c = omega (arith, below c.args.m c.args.last c.candidates.q c.requires.some c.candidates.invariant.0)

pub candidates-preserved-then-q-d-eq0 : goal.candidates-preserved-then-q-d-eq0
candidates-preserved-then-q-d-eq0 c =
    let i = c.candidates.invariant in
    let l = c.loop-d in
    let composite = l.invariant.0 ∙ odd_found (c.candidates.q + 2) l.d c.loop-d-test.true (small c.args.m c.args.last c.candidates.q c.requires.some i.0 i.1 i.2) c.if-q-d-eq0.true in
    (i.0 ∙ next_composite _ c.candidates.q i.1 (below c.args.m c.args.last c.candidates.q c.requires.some i.0) i.2 composite, omega (arith, i.1), odd c.args.m c.args.last c.candidates.q c.requires.some i.0 i.1 i.2)

pub loop-d-smaller : goal.loop-d-smaller
loop-d-smaller c =
    let i = c.candidates.invariant in
    let s = small_root c.loop-d.d (c.candidates.q + 2) c.loop-d-test.true (small c.args.m c.args.last c.candidates.q c.requires.some i.0 i.1 i.2) in
    omega arith

pub loop-d-preserved : goal.loop-d-preserved
loop-d-preserved c =
    let i = c.candidates.invariant in
    let l = c.loop-d in
    let low = small c.args.m c.args.last c.candidates.q c.requires.some i.0 i.1 i.2 in
    let s = small_root l.d (c.candidates.q + 2) c.loop-d-test.true low in
    (l.invariant.0 ∙ odd_not (c.candidates.q + 2) l.d c.loop-d-test.true low c.if-q-d-eq0.false, omega arith, omega arith)

pub candidates-smaller : goal.candidates-smaller
candidates-smaller c = omega (arith, below c.args.m c.args.last c.candidates.q c.requires.some c.candidates.invariant.0)

pub candidates-preserved : goal.candidates-preserved
candidates-preserved c =
    let i = c.candidates.invariant in
    let prime = c.loop-d.invariant.0 ∙ odd_end _ c.loop-d.d c.loop-d-test.false in (
      i.0 ∙ next_shared _ c.candidates.q i.1 (below c.args.m c.args.last c.candidates.q c.requires.some i.0) i.2 prime (λ e. c.if-gcd_of-eq1.false (c.gcd_of.ensures ∙ e)),
      omega (arith, i.1),
      odd c.args.m c.args.last c.candidates.q c.requires.some i.0 i.1 i.2,
    )

pub returns : goal.returns
returns c =
    let i = c.candidates.invariant in
    let prime = c.loop-d.invariant.0 ∙ odd_end _ c.loop-d.d c.loop-d-test.false in
    record {
      next_is = sym (i.0 ∙ next_found _ c.candidates.q i.1 (below c.args.m c.args.last c.candidates.q c.requires.some i.0) i.2 prime (sym c.gcd_of.ensures ∙ c.if-gcd_of-eq1.true));
      odd = odd c.args.m c.args.last c.candidates.q c.requires.some i.0 i.1 i.2;
      high = omega (arith, i.1);
    }
