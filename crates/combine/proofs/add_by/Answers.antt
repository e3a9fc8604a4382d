-- `combine::add_by` meets its contract: the table holds L, and then the refusal of the values, or the block added by it.
use Rattle.combine.specs.Passed.{fits_table, values_refused, ready, values_done}
use Rattle.combine.proofs.add_by.Goals as goal

pub judge_by-requires : goal.judge_by-requires
judge_by-requires g c = fits_table _ _ _ c.requires.lent c.fill.ensures

pub returns-in-Err : goal.returns-in-Err
returns-in-Err g c = values_refused _ _ _ c.requires.lent c.fill.ensures c.in-Err.ensures c.refusal_of.ensures

pub add_by-requires : goal.add_by-requires
add_by-requires g c = ready _ _ _ c.requires.lent c.fill.ensures c.in_default.ensures

pub returns : goal.returns
returns g c = values_done _ _ _ c.requires.lent c.fill.ensures c.in_default.ensures c.add_by.ensures.sums_after c.add_by.ensures.counts_after
