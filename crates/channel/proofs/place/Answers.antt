-- `channel::place` meets its contract: the definition's own sum.
use Prim.Native.Nat.{ℕ, ◌+◌}
use mathlib.Core.Path.{ap}
use Rattle.delay.specs.Machine.{comes_at}
use Rattle.channel.proofs.place.Goals as goal

pub returns : goal.returns
unfolding comes_at
returns c =
    ap (λ (d : ℕ). c.args.at + c.args.i + d) c.delay.ensures.0
