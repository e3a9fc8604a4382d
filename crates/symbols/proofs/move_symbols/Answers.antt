-- `symbols::move_symbols` meets its contract: the refusal of its judgement, or the block moved.
use Rattle.std.proofs.Common.{sym}
use Rattle.tables.proofs.Passed.{judged_so, kept_output}
use Rattle.symbols.specs.Answer.{moved_symbols}
use Rattle.symbols.proofs.move_symbols.Goals as goal

pub returns-in_err-judge-clause-output : goal.returns-in_err-judge-clause-output
unfolding moved_symbols
returns-in_err-judge-clause-output c = kept_output _ _ _ _ c.in_err-judge.ensures _ _

pub move_judged-requires : goal.move_judged-requires
move_judged-requires c = judged_so _ _ _ _ (sym c.in_ok-judge.ensures)
