-- `lines::word` is word i: spaces and words in turns.
use Prim.Native.Nat.{◌-◌}
use Rattle.std.specs.Prelude.{◌≡◌}
use Rattle.lines.specs.Words.{word_of}
use Rattle.lines.proofs.word.Given as goal

abbrev pub invariant-loop : goal.invariant-loop
invariant-loop l = word_of (l.i - l.counter) l.rest ≡ word_of l.i l.line
