-- No two positions share an address exactly where the test passes, for every K below 65,536 that is a multiple of 4, and so for every listed K.
-- Then L and M undo each other, and the laws of a rule without padding hold. Rests on Enough and Needed.
use Rattle.std.specs.Prelude.{true, false, ◌≡◌, ℕ, ◌+◌, ◌*◌, ◌%◌, ◌^◌, ◌<◌, eqb}
use Rattle.std.proofs.Math.Nat.{mod-lt}
use borrow.Author.Tests.{eqb-true, eq-eqb}
use Rattle.laws.specs.Perm.{Perm}
use Rattle.laws.specs.Members.{both}
use Rattle.laws.specs.Euclid.{gcd, coprime}
use Rattle.laws.specs.Shared.{OneToOne, Shared, failed_shared, shared_failed, run_perm}
use Rattle.laws.specs.Walk.{Lawful, bare_lawful}
use Rattle.quadratic.specs.Formula.{quadratic_l, quadratic_m, quadratic_rule, all_apart}
use Rattle.quadratic.proofs.Enough.{one_to_one}
use Rattle.quadratic.proofs.Needed.{f1_alone, f2_power}

module _ (k f1 f2 : ℕ) (hk : 0 < k) where
  pub address_below : (t : ℕ) → quadratic_l k f1 f2 t < k
  unfolding quadratic_l
  address_below t = mod-lt (f1 * t + f2 * (t * t)) hk

  -- the test is enough, for any K
  pub passed_apart : all_apart k f1 f2 ≡ true → OneToOne (quadratic_l k f1 f2) k
  unfolding all_apart
  passed_apart e =
      let p = both (eqb (gcd k f1) 1) (eqb (f2 ^ 16 % k) 0) e in
      one_to_one k f1 f2 hk (coprime k f1 hk (eqb-true (gcd k f1) 1 p.0)) (eqb-true (f2 ^ 16 % k) 0 p.1)

  -- each address below K is used once
  pub quadratic_once : all_apart k f1 f2 ≡ true → Perm k (quadratic_l k f1 f2) (quadratic_m k f1 f2)
  unfolding quadratic_m
  quadratic_once e = run_perm (quadratic_l k f1 f2) k (λ t l. address_below t) (passed_apart e)

  module _ (small : k < 65536) where
    pub quadratic_lawful : all_apart k f1 f2 ≡ true → Lawful k (quadratic_rule k f1 f2)
    quadratic_lawful e = bare_lawful (quadratic_once e) small

    module _ (four : k % 4 ≡ 0) where
      -- and needed
      pub apart_passed : OneToOne (quadratic_l k f1 f2) k → all_apart k f1 f2 ≡ true
      unfolding all_apart
      apart_passed o = rw (eq-eqb (gcd k f1) 1 (f1_alone k f1 f2 hk o four), eq-eqb (f2 ^ 16 % k) 0 (f2_power k f1 f2 hk o four small))

      -- where it fails two positions share an address, and only there
      pub failed_two : all_apart k f1 f2 ≡ false → Shared (quadratic_l k f1 f2) k
      failed_two = failed_shared (quadratic_l k f1 f2) k (all_apart k f1 f2) passed_apart apart_passed

      pub two_failed : Shared (quadratic_l k f1 f2) k → all_apart k f1 f2 ≡ false
      two_failed = shared_failed (quadratic_l k f1 f2) k (all_apart k f1 f2) passed_apart apart_passed
