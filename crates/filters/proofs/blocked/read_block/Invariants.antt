-- `filters::blocked::read_block` ends: what is left to read falls.
use Rattle.std.proofs.Common.{length, ◌-◌, ◌≤◌}
use Rattle.filters.proofs.blocked.read_block.Given as goal

abbrev pub invariant-loop-at : goal.invariant-loop-at
invariant-loop-at l = l.at ≤ length l.block

abbrev pub decreases-loop-at : goal.decreases-loop-at
decreases-loop-at l = length l.initial.block - l.at
