-- `quadratic_walk::walk` is the walk for L from any cell: 9 by its test, and else what `write` wrote.
use Rattle.laws.specs.Leaves.{ran_leaf}
use Rattle.quadratic.proofs.Law.{address_below}
use Rattle.quadratic_walk.proofs.walk.Goals as goal

pub returns : goal.returns
returns c =
    ran_leaf (λ x h. address_below _ _ _ c.args.q.whole.size x) c.if-cell-q.false c.write-count.ensures
