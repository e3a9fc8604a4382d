-- `quadratic::all_apart` is the test of f1 and f2.
use Rattle.quadratic.specs.Test.{not_alone, by_power}
use Rattle.quadratic.proofs.all_apart.Goals as goal

pub returns-then-gcd_of-ne1 : goal.returns-then-gcd_of-ne1
returns-then-gcd_of-ne1 c =
    let a = c.args in
    not_alone a.k a.f1 a.f2 c.gcd_of.ensures c.if-gcd_of-ne1.true

pub returns : goal.returns
returns c =
    let a = c.args in
    by_power a.k a.f1 a.f2 c.gcd_of.ensures c.if-gcd_of-ne1.false c.sixteenth.ensures
