-- `profiles::group_by` is s, and s is 1, 2 or 3.
use native.Mathlib.Omega.{arith}
use borrow.Author.Tests.{eq-eqb, ne_eqb}
use Rattle.profiles.proofs.group_by.Goals as goal

pub returns-then-bits-eq6 : goal.returns-then-bits-eq6
returns-then-bits-eq6 c = record { value = simp (eq-eqb _ 6 c.if-bits-eq6.true); result_nonzero = omega arith }

pub returns-then-bits-eq4 : goal.returns-then-bits-eq4
returns-then-bits-eq4 c = record { value = simp (ne_eqb _ 6 c.if-bits-eq6.false, eq-eqb _ 4 c.if-bits-eq4.true); result_nonzero = omega arith }

pub returns : goal.returns
returns c = record { value = simp (ne_eqb _ 6 c.if-bits-eq6.false, ne_eqb _ 4 c.if-bits-eq4.false); result_nonzero = omega arith }
