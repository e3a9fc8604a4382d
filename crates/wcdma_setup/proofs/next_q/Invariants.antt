-- `next_q` is the next q. Invariants: what the search gives from here on is what it gives from the start, so that q is below 89; and whether the
-- candidate is a prime is the test with the divisors that are left.
use Prim.Native.Nat.{◌%◌, ◌-◌, ◌≤◌, suc}
use mathlib.Core.Path.{◌≡◌}
use Rattle.wcdma_setup.proofs.Search.{odd_test}
use Rattle.wcdma_setup.specs.Numbers.{is_prime, next_in, farthest, next_q}
use Rattle.wcdma_setup.proofs.next_q.Given as goal

abbrev pub invariant-loop-d : goal.invariant-loop-d
invariant-loop-d l = (is_prime l.q ≡ odd_test l.q l.d (11 - l.d)) × (3 ≤ l.d) × (l.d ≤ 11)

abbrev pub decreases-loop-d : goal.decreases-loop-d
decreases-loop-d l = 11 - l.d

abbrev pub invariant-candidates : goal.invariant-candidates
invariant-candidates l = (next_q l.m l.last ≡ next_in l.m (suc l.q) (farthest - l.q)) × (5 ≤ l.q) × (l.q % 2 ≡ 1)

abbrev pub decreases-candidates : goal.decreases-candidates
decreases-candidates l = farthest - l.q
