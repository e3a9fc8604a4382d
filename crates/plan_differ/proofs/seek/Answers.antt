-- `plan_differ::seek` looks for a position. The loop's invariant: the first from here on is the first of all.
use mathlib.Core.Path.{◌∙◌}
use Rattle.plan_differ.specs.Seeking.{seek_end, seek_found, seek_next, seek_below}
use mathlib.Core.Bool.{not}
use mathlib.Core.Path.{ap}
use Rattle.plan_differ.proofs.seek.Goals as goal

pub returns-then-not-same_at : goal.returns-then-not-same_at
returns-then-not-same_at c = let a = c.args in let m = c.max-p-end.ensures in let h = c.loop-p-test.true in record { value = seek_found a.left.now a.right.now a.one a.two _ m h c.same_at.ensures (ap not c.if-not-same_at.true) ∙ c.loop-p.invariant; below = seek_below a.left.now a.right.now a.one a.two _ m c.requires.0 c.requires.1 h }

pub loop-p-preserved : goal.loop-p-preserved
loop-p-preserved c = let a = c.args in
    seek_next a.left.now a.right.now a.one a.two _ c.max-p-end.ensures c.loop-p-test.true c.same_at.ensures (ap not c.if-not-same_at.false) ∙ c.loop-p.invariant

pub returns : goal.returns
returns c = let a = c.args in record { value = seek_end a.left.now a.right.now a.one a.two _ c.max-p-end.ensures c.loop-p-test.false ∙ c.loop-p.invariant; below = tt }
