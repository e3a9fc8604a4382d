-- `second_half` takes the first half of the powers from top, one by one.
use lib.ListN.{length}
use mathlib.Core.Path.{◌≡◌}
use Rattle.wcdma_powers.specs.Post.{HalvesOf}
use Rattle.wcdma_powers.proofs.second_half.Given as goal

abbrev pub invariant-loop-x : goal.invariant-loop-x
invariant-loop-x l = (length l.s ≡ 256) × HalvesOf l.top l.half l.x l.initial.s l.s
