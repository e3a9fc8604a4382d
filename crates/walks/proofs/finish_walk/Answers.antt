-- `walks::finish_walk` carries a leaf's answer on.
use mathlib.Core.Path.{ap, sym, ◌∙◌, subst}
use native.Mathlib.Omega.{arith}
use Rattle.laws.specs.Outcome.{refused, say}
use Rattle.laws.specs.Walk.{Leaf}
use Rattle.laws.specs.Leaves.{Fits, carry}
use Rattle.sets.specs.Verdict.{refusal}
use Rattle.walks.specs.Passed.{onward}
use Rattle.walks.proofs.finish_walk.Goals as goal

pub overflow_cast-seen : goal.overflow_cast-seen
overflow_cast-seen c = omega (arith, (subst (Fits c.args.w.cell) c.in-Ok.is c.requires).1)

pub overflow_add-next : goal.overflow_add-next
overflow_add-next c = omega (arith, (subst (Fits c.args.w.cell) c.in-Ok.is c.requires).1)

pub overflow_cast-result : goal.overflow_cast-result
overflow_cast-result c = omega (arith, (subst (Fits c.args.w.cell) c.in-Ok.is c.requires).0)

pub returns-in-Err : goal.returns-in-Err
returns-in-Err c =
    let w = c.args.w in
    ap refused c.refusal_of.ensures ∙ ap (λ (x : Leaf). carry (refusal w.set) (onward w) (say x)) (sym c.in-Err.is)

pub returns-in-Ok : goal.returns-in-Ok
returns-in-Ok c =
    let w = c.args.w in
    ap (λ (x : Leaf). carry (refusal w.set) (onward w) (say x)) (sym c.in-Ok.is)
