-- `files::read_full` ends: what is left to read falls, and what was read fits the room.
use Rattle.std.proofs.Common.{length, ◌-◌, ◌≤◌}
use Rattle.files.proofs.read_full.Given as goal

abbrev pub invariant-loop-at : goal.invariant-loop-at
invariant-loop-at l = l.at ≤ length l.room

abbrev pub decreases-loop-at : goal.decreases-loop-at
decreases-loop-at l = length l.initial.room - l.at
