-- `quadratic_walk::write` writes L from any cell on, four positions after another, and then the rest.
use native.Mathlib.Omega.{arith}
use Rattle.laws.specs.Stepped.{room}
use Rattle.quadratic_walk.specs.Spot.{ready_in}
use Rattle.quadratic_walk.proofs.write.Goals as goal

pub write_two-at-requires : goal.write_two-at-requires
write_two-at-requires c =
    let g = c.fours.invariant in
    (ready_in g.0.kept g.0.state, omega (arith, room g.0, g.1, c.fours-test.true))

pub write_two-at-requires-in-fours : goal.write_two-at-requires-in-fours
write_two-at-requires-in-fours c =
    let g = c.fours.invariant in
    let v = c.write_two-at.ensures _ _ _ _ _ (omega (arith, g.1, c.fours-test.true)) g.0 in
    (ready_in v.kept v.state, omega (arith, room v, g.1, c.fours-test.true))

pub fours-preserved : goal.fours-preserved
fours-preserved c =
    let g = c.fours.invariant in
    let v = c.write_two-at.ensures _ _ _ _ _ (omega (arith, g.1, c.fours-test.true)) g.0 in (
      c.write_two-at-in-fours.ensures _ _ _ _ _ (omega (arith, g.1, c.fours-test.true)) v,
      omega (arith, g.1),
    )

pub write_rest-requires : goal.write_rest-requires
write_rest-requires c =
    let g = c.fours.invariant in
    (ready_in g.0.kept g.0.state, omega (arith, g.1), room g.0)
