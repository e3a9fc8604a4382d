-- The invariant: d is the least distance of byte k from bytes 0 to i - 1.
use Rattle.channel.specs.Nearest.{apart, Gone}
use Rattle.channel.proofs.from_earlier.Given as goal

abbrev pub invariant-loop-i : goal.invariant-loop-i
invariant-loop-i l = Gone (λ m. apart l.kind l.at m l.k) l.i l.d
