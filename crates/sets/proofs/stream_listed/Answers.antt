-- `sets::stream_listed` is the test of the stream.
use mathlib.Core.Bool.{◌&&◌}
use mathlib.Core.Path.{ap}
use lib.Dec.{leb}
use Rattle.profiles.specs.declared.Numbers.{Numbers}
use Rattle.sets.specs.Stream.{stream_listed, stream_1}
use Rattle.sets.proofs.stream_listed.Goals as goal

pub returns-then-set-eq1 : goal.returns-then-set-eq1
returns-then-set-eq1 c = stream_1 _ c.if-set-eq1.true

pub returns : goal.returns
unfolding stream_listed
returns c =
    let i = c.args.set.stream in
    ap (λ (x : Numbers). leb 1 i && leb i x.streams) c.numbers_of-numbers.ensures
