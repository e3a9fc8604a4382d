-- `sides_of` is R and C of a size.
use Rattle.wcdma_shape.proofs.sides_of.Goals as goal

pub returns : goal.returns
returns c = (c.rows_of-r.ensures, c.cols_of-c.ensures)
