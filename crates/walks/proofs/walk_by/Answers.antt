-- `walks::walk_by` meets its contract: a refused set is refused, with 1 where the walk is not had, and else the family's walk is carried on.
use mathlib.Core.Path.{sym, ap, ◌∙◌}
use Rattle.sets.specs.Verdict.{say_ruled, clear_accepts, stopped_refuses}
use Rattle.families.specs.Taken.{walk_leaf_fits}
use Rattle.walks.proofs.Passed.{refused_answer, refused_slice, leaf_answer, leaf_slice}
use Rattle.walks.proofs.walk_by.Goals as goal

pub walk-requires : goal.walk-requires
walk-requires c =
    clear_accepts _ (sym c.ruling_of.ensures ∙ ap say_ruled c.in_default.is)

pub finish_walk-requires : goal.finish_walk-requires
finish_walk-requires c =
    let args = c.args in
    walk_leaf_fits args.way args.w.set _ (clear_accepts _ (sym c.ruling_of.ensures ∙ ap say_ruled c.in_default.is)) c.walk.ensures

pub returns-in-Err : goal.returns-in-Err
returns-in-Err c =
    let e = stopped_refuses _ (sym c.in-Err.ensures) in
    record { answer = refused_answer _ _ e _ c.refused_walk.ensures; slice = refused_slice _ _ e _ }

pub returns : goal.returns
returns c =
    let e = clear_accepts _ (sym c.ruling_of.ensures ∙ ap say_ruled c.in_default.is) in
    record { answer = leaf_answer _ _ e c.walk.ensures c.finish_walk.ensures; slice = leaf_slice _ _ e c.walk.ensures }
