-- `plan_writer::put_list` goes from piece to piece. The loop's invariant: what was walked is stored; the measure is what is left of L.
use native.Mathlib.Omega.{arith}
use mathlib.Core.Path.{refl}
use Rattle.plan_writer.specs.Listing.{file_first, file_end, file_more, many}
use borrow.Author.Rules.{rules}
use Rattle.plan_writer.proofs.put_list.Goals as goal

pub loop-w-init : goal.loop-w-init
loop-w-init c = (refl, file_first _ _ _ c.begin-w.ensures.1 c.begin-w.ensures.0)

pub next-w-requires : goal.next-w-requires
next-w-requires c = (c.requires.0, c.loop-w.invariant.1.stands)

pub put_piece-requires : goal.put_piece-requires
put_piece-requires c =
    let i = c.loop-w.invariant.1 in
    omega (arith, many i c.next-w.ensures, c.next-w.ensures.stands.inside, c.next-w.ensures.moved, i.size, c.requires.1)

pub loop-w-smaller : goal.loop-w-smaller
loop-w-smaller c = omega (arith, c.next-w.ensures.moved, c.loop-w.invariant.0, c.requires.2, c.loop-w-test.true)

pub loop-w-preserved : goal.loop-w-preserved
loop-w-preserved c = (search rules, file_more c.loop-w.invariant.1 c.next-w.ensures c.put_piece.ensures)

pub shape_of-out : goal.shape_of-out
shape_of-out c = c.loop-w.invariant.1.size

pub shape_of-piece : goal.shape_of-piece
shape_of-piece c = c.loop-w.invariant.0

pub returns : goal.returns
returns c = file_end c.loop-w.invariant.1 c.loop-w-test.false
