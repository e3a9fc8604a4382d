-- The first byte of a ring, from where a machine stands.
use Rattle.std.specs.Prelude.{ℕ, ◌+◌, ◌-◌, ◌%◌, ◌≤◌, ◌<◌, ◌≡◌}
use Rattle.std.proofs.Common.{mod-eq_of_lt, arith}
use Rattle.std.proofs.Math.Nat.{add-mod_right}
use Rattle.delay.specs.Machine.{Machine, Stand, ring_of}
use Rattle.delay.specs.Slots.{ring_lt, there_and_back}
use Rattle.delay.specs.Bytes.{ring_at}
use Rattle.delay.specs.Lane.{Leads}

module _ (M : Machine) (R : Stand) (x : ℕ) {j : ℕ} (h : x < M.branches) (e : j ≡ ring_of M.way M.branches x) where
  below : j < M.branches
  below = rw e (ring_lt M.way M.branches x h)

  found : {k : ℕ} → k < M.branches → (R.branch + k) % M.branches ≡ j → Leads M R x k
  unfolding ring_at
  found l n = record { few = l; here = rw (n, e) (there_and_back M.way M.branches x h) }

  -- its branch is still to come in this turn ..
  pub leads_on : R.branch ≤ j → Leads M R x (j - R.branch)
  leads_on l =
      let z : R.branch + (j - R.branch) ≡ j = omega arith in
      found (omega (arith, below)) (rw z (mod-eq_of_lt below))

  -- .. or comes in the next
  pub leads_round : j < R.branch → R.branch < M.branches → Leads M R x (j + M.branches - R.branch)
  leads_round l m =
      let z : R.branch + (j + M.branches - R.branch) ≡ j + M.branches = omega arith in
      found (omega arith) (rw (z, add-mod_right j M.branches) (mod-eq_of_lt below))
