-- `gateway::share`.
use mathlib.Core.Path.{sym, ap, ◌∙◌}
use native.Mathlib.Omega.{arith}
use Rattle.laws.specs.Outcome.{say}
use Rattle.gateway.specs.Telling.{share_fits, share_stopped, share_placed}
use Rattle.gateway.proofs.share.Goals as goal

pub slice_bounds-result-end-in-Ok : goal.slice_bounds-result-end-in-Ok
slice_bounds-result-end-in-Ok c = omega (arith, share_fits _ _ (sym c.place_of.ensures ∙ ap say c.in-Ok.is))

pub returns-in-Err : goal.returns-in-Err
returns-in-Err c = share_stopped _ _ (sym c.place_of.ensures ∙ ap say c.in-Err.is)

pub returns-in-Ok : goal.returns-in-Ok
returns-in-Ok c = share_placed _ _ (sym c.place_of.ensures ∙ ap say c.in-Ok.is)
