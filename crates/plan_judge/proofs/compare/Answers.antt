-- `plan_judge::compare` goes from piece to piece. The loop's invariant: the positions before the next piece are tallied; the measure is those that are left.
use native.Mathlib.Omega.{arith}
use mathlib.Core.Path.{refl}
use Rattle.plan_form.specs.Lists.{listed_length}
use Rattle.plan_judge.specs.Tally.{compare_first, compare_more, many, ended_even, ended_surplus}
use borrow.Author.Rules.{rules}
use Rattle.plan_judge.proofs.compare.Goals as goal

pub loop-w-init : goal.loop-w-init
loop-w-init c = (refl, compare_first _ _ c.begin-w.ensures.1 c.begin-w.ensures.0)

pub next-w-requires : goal.next-w-requires
next-w-requires c = (c.requires.0, c.loop-w.invariant.1.stands)

pub tally_piece-tally-requires : goal.tally_piece-tally-requires
tally_piece-tally-requires c = (
  c.requires.1,
  record {
    far = omega (arith, many c.loop-w.invariant.1 c.next-w.ensures, c.next-w.ensures.stands.inside, c.next-w.ensures.moved);
    few = c.loop-w.invariant.1.few;
  },
)

pub loop-w-smaller : goal.loop-w-smaller
loop-w-smaller c = omega (arith, c.next-w.ensures.moved, c.loop-w.invariant.0, c.requires.2, c.loop-w-test.true)

pub loop-w-preserved : goal.loop-w-preserved
loop-w-preserved c = (search rules, compare_more c.loop-w.invariant.1 c.next-w.ensures c.tally_piece-tally.ensures)

pub shape_of-piece-then-count-n : goal.shape_of-piece-then-count-n
shape_of-piece-then-count-n c = c.loop-w.invariant.0

pub returns-then-count-n : goal.returns-then-count-n
returns-then-count-n c = let a = c.args in ended_even c.loop-w.invariant.1 c.loop-w-test.false (omega (arith, listed_length a.file.now a.list, c.if-count-n.true))

pub more_wrong-requires : goal.more_wrong-requires
more_wrong-requires c =
    let i = c.loop-w.invariant.1 in
    (omega (arith, i.few, i.stands.inside, c.if-count-n.false, c.requires.1.short, c.requires.1.inside), search rules)

pub shape_of-piece : goal.shape_of-piece
shape_of-piece c = c.loop-w.invariant.0

pub returns : goal.returns
returns c = let a = c.args in
    ended_surplus c.loop-w.invariant.1 c.loop-w-test.false (omega (arith, listed_length a.file.now a.list, c.if-count-n.false)) (rw (listed_length a.file.now a.list) c.more_wrong.ensures)
