-- `words::arguments::with_argument`: the same for some word of at most 48 bytes.
use native.Mathlib.Omega.{arith}
use lib.ListN.{take}
use Rattle.std.proofs.lemmas.List.{length-take-le}
use Rattle.words.proofs.arguments.with_argument.Goals as goal

pub returns : goal.returns
returns c =
    let a = c.arg-k in
    record { word = take a.result a.new.room; few = omega (arith, a.ensures, length-take-le a.result a.new.room a.ensures); line = c.with_some.ensures }
