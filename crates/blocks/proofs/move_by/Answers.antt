-- `blocks::move_by` meets its contract: the table holds L, and the entries are moved by it.
use Rattle.laws.specs.declared.Way.TheVariants.{Interleaver, Deinterleaver}
use Rattle.blocks.specs.Passed.{fitting, output_is}
use Rattle.blocks.proofs.move_by.Goals as goal

pub gather_by-requires : goal.gather_by-requires
gather_by-requires g c = fitting _ _ c.requires.judged c.fill.ensures

pub scatter_by-requires : goal.scatter_by-requires
scatter_by-requires g c = fitting _ _ c.requires.judged c.fill.ensures

pub returns-in-Interleaver : goal.returns-in-Interleaver
returns-in-Interleaver g c = λ z. output_is _ _ c.requires.judged c.fill.ensures _ Interleaver z c.in-Interleaver.is (c.gather_by.ensures z)

pub returns-in-Deinterleaver : goal.returns-in-Deinterleaver
returns-in-Deinterleaver g c = λ z. output_is _ _ c.requires.judged c.fill.ensures _ Deinterleaver z c.in-Deinterleaver.is (c.scatter_by.ensures z)
