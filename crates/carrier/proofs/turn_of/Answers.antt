-- `carrier::turn_of` is the turn; its coefficient is at most 3, so no product wraps.
use mathlib.Core.Path.{sym}
use native.Mathlib.Nat.{mul_assoc}
use Rattle.carrier.specs.Third.{turn}
use Rattle.carrier.proofs.turn_of.Goals as goal

pub returns : goal.returns
unfolding turn
returns c = sym (mul_assoc _ c.args.r c.args.bits)
