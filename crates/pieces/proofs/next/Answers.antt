-- `pieces::next` writes the next piece: the walk from where it stands is not refused, and goes on.
use native.Mathlib.Omega.{arith}
use Rattle.pieces.specs.Pieces.{goes, written_min, cells_in, cells_small, piece_next}
use Rattle.pieces.proofs.next.Goals as goal

pub overflow_add-result : goal.overflow_add-result
overflow_add-result c = let p = c.requires in omega (arith, written_min _ p.0 p.1 c.in-Ok.ensures, p.1.inside)

pub overflow_add-result-in-Ok : goal.overflow_add-result-in-Ok
overflow_add-result-in-Ok c = let p = c.requires in omega (arith, cells_in _ p.0 p.1 c.in-Ok.ensures, cells_small _ p.0)

pub returns-in-Err : goal.returns-in-Err
returns-in-Err c = absurd (goes _ c.requires.0 c.requires.1 c.in-Err.ensures)

pub returns-in-Ok : goal.returns-in-Ok
returns-in-Ok c = piece_next _ c.requires.0 c.requires.1 c.in-Ok.ensures
