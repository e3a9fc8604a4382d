-- `plan_writer::put_piece` stores a piece. The loop's invariant: what is still to be stored, stored from here, makes the whole.
use Rattle.plan_writer.specs.Listing.{put_first, put_end, put_more}
use borrow.Author.Rules.{rules}
use Rattle.plan_writer.proofs.put_piece.Goals as goal

pub loop-j-init : goal.loop-j-init
loop-j-init c = put_first _ _ _

pub loop-j-preserved : goal.loop-j-preserved
loop-j-preserved c = put_more c.loop-j.invariant c.loop-j-test.true (search rules) c.put_pair.ensures

pub shape_of-out : goal.shape_of-out
shape_of-out c = c.loop-j.invariant.size

pub returns : goal.returns
returns c = put_end c.loop-j.invariant c.loop-j-test.false
