-- `symbol_movers::copy_symbol` copies `width` bytes. The loop's invariant: the first i are copied.
use Rattle.std.proofs.Common.{◌≡◌, drop}
use Rattle.std.proofs.Math.Seq.{paste}
use Rattle.symbol_movers.proofs.copy_symbol.Given as goal

abbrev pub invariant-loop-i : goal.invariant-loop-i
invariant-loop-i l = l.dst ≡ paste l.initial.dst l.to (drop l.from l.src) l.i
