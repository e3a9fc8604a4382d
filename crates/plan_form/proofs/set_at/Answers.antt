-- `plan_form::set_at` reads three header numbers.
use Rattle.plan_form.specs.Form.{set_in}
use Rattle.plan_form.proofs.set_at.Goals as goal

pub returns : goal.returns
unfolding set_in
returns c = cc
