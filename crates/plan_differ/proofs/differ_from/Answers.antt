-- `plan_differ::differ_from` asks plan after plan. The loop's invariant: the first difference from here on is the first of all.
use native.Mathlib.Omega.{arith}
use mathlib.Core.Path.{ap₂, ◌∙◌}
use Prim.Native.Nat.{max}
use Rattle.plan_differ.specs.Seeking.{differ_end, differ_found, differ_next}
use Rattle.plan_differ.proofs.differ_from.Goals as goal

pub differ_plan-requires : goal.differ_plan-requires
differ_plan-requires c =
    (c.requires.0, c.requires.1, omega (arith, c.loop-k-test.true, c.max-most.ensures, c.plans_in.ensures.0, c.plans_in-2.ensures.0, c.requires.0.few, c.requires.1.few))

pub returns-in-Some : goal.returns-in-Some
returns-in-Some c =
    differ_found _ _ _ _ (c.max-most.ensures ∙ ap₂ max c.plans_in.ensures.0 c.plans_in-2.ensures.0) c.loop-k-test.true
    c.in-Some.ensures ∙ c.loop-k.invariant

pub loop-k-preserved : goal.loop-k-preserved
loop-k-preserved c =
    differ_next _ _ _ _ (c.max-most.ensures ∙ ap₂ max c.plans_in.ensures.0 c.plans_in-2.ensures.0) c.loop-k-test.true
    c.in_default.ensures ∙ c.loop-k.invariant

pub returns : goal.returns
returns c = differ_end _ _ _ _ (c.max-most.ensures ∙ ap₂ max c.plans_in.ensures.0 c.plans_in-2.ensures.0) c.loop-k-test.false ∙ c.loop-k.invariant
