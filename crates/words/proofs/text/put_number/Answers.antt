-- `words::text::put_number`: the digits of n, put.
use Rattle.words.specs.Gathered.{put_number}
use Rattle.words.proofs.text.put_number.Goals as goal

pub returns : goal.returns
returns c = let d = c.decimal-k.ensures in put_number {k = c.decimal-k.result} d.len d.digits c.put.ensures
