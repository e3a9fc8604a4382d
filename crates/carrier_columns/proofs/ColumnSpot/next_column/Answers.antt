-- `carrier_columns::ColumnSpot::next_column` goes to the first row of the next column, whatever the block.
use Rattle.carrier_columns.specs.Column.{column_turned}
use Rattle.carrier_columns.proofs.ColumnSpot.next_column.Goals as goal

pub returns : goal.returns
returns c = λ d n z. column_turned z _ _ (c.up_by_one-low.ensures _ c.requires.1)
