-- A judgement, flattened for C: the first wrong position, and how many are wrong; both 0 where the plan is equal. These are definitions.
use Rattle.std.specs.Prelude.{ℕ}
use Rattle.plans.specs.declared.judging.Compared.{Compared}
use Rattle.plans.specs.declared.judging.Compared.TheVariants.{Same, Wrong}

abbrev pub first_of : Compared → ℕ
first_of Same = 0
first_of (Wrong p k) = p

abbrev pub wrong_of : Compared → ℕ
wrong_of Same = 0
wrong_of (Wrong p k) = k
