-- `blocks::move_block` meets its contract: the refusal of its judgement, or the block moved.
use Rattle.std.proofs.Common.{sym, ◌∙◌}
use Rattle.tables.proofs.Passed.{answer_one, judged_so, kept_output}
use Rattle.blocks.specs.Answer.{moved}
use Rattle.blocks.proofs.move_block.Goals as goal

pub returns-in_err-judge-clause-output : goal.returns-in_err-judge-clause-output
unfolding moved
returns-in_err-judge-clause-output g c = λ z. kept_output _ _ _ _ (c.in_err-judge.ensures ∙ answer_one _ _ _) _ _

pub move_judged-requires : goal.move_judged-requires
move_judged-requires g c = judged_so _ _ _ _ (sym (c.in_ok-judge.ensures ∙ answer_one _ _ _))
