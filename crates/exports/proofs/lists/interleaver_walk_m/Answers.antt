-- `exports::lists::interleaver_walk_m` is the call of its way.
use Rattle.exports.proofs.lists.interleaver_walk_m.Goals as goal

pub returns : goal.returns
returns c = record { number = c.walk_on.ensures.number; cell = c.walk_on.ensures.cell; slice = c.walk_on.ensures.slice; written = c.walk_on.ensures.written; cells = c.walk_on.ensures.cells }
