-- `symbols::move_by` meets its contract: the table holds L of the block's symbols, and the symbols are moved by it.
use Rattle.laws.specs.declared.Way.TheVariants.{Interleaver, Deinterleaver}
use Rattle.symbols.specs.Passed.{movable, output_is}
use Rattle.symbols.proofs.move_by.Goals as goal

pub gather_by-requires : goal.gather_by-requires
gather_by-requires g c = movable _ _ _ c.requires.judged c.fill.ensures c.size_of-n.ensures.size

pub scatter_by-requires : goal.scatter_by-requires
scatter_by-requires g c = movable _ _ _ c.requires.judged c.fill.ensures c.size_of-n.ensures.size

pub returns-in-Interleaver : goal.returns-in-Interleaver
returns-in-Interleaver g c = output_is _ _ _ c.requires.judged c.fill.ensures c.size_of-n.ensures.size _ Interleaver c.in-Interleaver.is c.gather_by.ensures

pub returns-in-Deinterleaver : goal.returns-in-Deinterleaver
returns-in-Deinterleaver g c = output_is _ _ _ c.requires.judged c.fill.ensures c.size_of-n.ensures.size _ Deinterleaver c.in-Deinterleaver.is c.scatter_by.ensures
