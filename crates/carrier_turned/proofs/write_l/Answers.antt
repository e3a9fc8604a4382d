-- `carrier_turned::write_l` writes L from any cell on: the piece before the seam, the one from it on, or both.
use native.Mathlib.Omega.{arith}
use Rattle.carrier_turned.specs.Turned.{within}
use Rattle.carrier_turned.specs.Seam.{one_piece, two_pieces, past_seam}
use Rattle.carrier_turned.proofs.write_l.Goals as goal

pub returns-then-first-count : goal.returns-then-first-count
returns-then-first-count c =
    two_pieces (within c.args.b c.requires.0 c.requires.1) c.least-count.ensures (omega (arith, c.if-cell-seam.true)) c.write-first.ensures c.if-first-count.true c.write.ensures

pub returns-else-first-count : goal.returns-else-first-count
returns-else-first-count c =
    one_piece (within c.args.b c.requires.0 c.requires.1) c.least-count.ensures (omega (arith, c.if-cell-seam.true)) c.write-first.ensures (omega (arith, c.if-first-count.false))

pub returns : goal.returns
returns c =
    past_seam (within c.args.b c.requires.0 c.requires.1) c.least-count.ensures (omega (arith, c.if-cell-seam.false)) c.write-2.ensures
