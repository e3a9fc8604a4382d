-- `figures_in` is a line of the report.
use borrow.Author.Rules.{rules}
use Rattle.wcdma_report.specs.Figured.{rows_few, cols_few, cells_few, symbols_fit, figures_are}
use Rattle.wcdma_report.proofs.figures_in.Goals as goal

pub overflow_cast-r : goal.overflow_cast-r
overflow_cast-r c = let e = c.sides_of-z.ensures in let h = rows_few c.requires e.0 e.1 in search rules

pub overflow_cast-c : goal.overflow_cast-c
overflow_cast-c c = let e = c.sides_of-z.ensures in let h = cols_few c.requires e.0 e.1 in search rules

pub overflow_mul-cells : goal.overflow_mul-cells
overflow_mul-cells c = let h = cells_few c.requires c.sides_of-z.ensures.0 c.sides_of-z.ensures.1 in search rules

pub overflow_sub-result : goal.overflow_sub-result
overflow_sub-result c = symbols_fit c.requires c.sides_of-z.ensures.0 c.sides_of-z.ensures.1

pub returns : goal.returns
returns c = figures_are c.requires c.sides_of-z.ensures.0 c.sides_of-z.ensures.1
