-- `couples_walk::walk` is the walk for P from any cell: 9 by its test, and else what `write` wrote.
use Rattle.laws.specs.Leaves.{ran_leaf}
use Rattle.couples.specs.Law.{couple_below}
use Rattle.couples_walk.proofs.walk.Goals as goal

pub returns : goal.returns
returns c =
    ran_leaf (λ x h. couple_below _ c.requires.size x) c.if-cell-couples.false c.write-count.ensures
