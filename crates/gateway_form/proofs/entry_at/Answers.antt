-- `gateway_form::entry_at`.
use native.Mathlib.Nat.{add-sub_cancel_left}
use Rattle.gateway_form.proofs.entry_at.Goals as goal

pub returns : goal.returns
returns c = rw (add-sub_cancel_left _ 224)
