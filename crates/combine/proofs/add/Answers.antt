-- `combine::add` meets its contract: the refusal of the judgement, with all as it was, or what adding the judged block leaves.
use Rattle.std.proofs.Common.{rules, ◌≡◌, sym, ◌∙◌}
use Rattle.laws.specs.Outcome.{refused, say}
use Rattle.positions.specs.Heard.{reception, kept}
use Rattle.tables.proofs.Passed.{judged_so}
use Rattle.combine.specs.Passed.{is_plain, couples_refused, said_so, block_refused}
use Rattle.combine.proofs.add.Goals as goal

pub returns-in_err-plain : goal.returns-in_err-plain
returns-in_err-plain c =
    let a = c.args in
    let kept_so = couples_refused a.set (reception a.received.now a.present.now) (kept a.sums.now a.counts.now) c.in_err-plain.ensures in
    let said : say c.from_residual.result ≡ refused c.in_err-plain.field-0.0 = search rules in
    record { answer = said ∙ kept_so.answer; sums = kept_so.sums; counts = kept_so.counts }

pub returns-in_err-judge : goal.returns-in_err-judge
returns-in_err-judge c =
    let a = c.args in
    let no_couples = is_plain _ c.in_ok-plain.ensures in
    let kept_so = block_refused a.set (reception a.received.now a.present.now) (kept a.sums.now a.counts.now) no_couples
    (said_so _ _ _ no_couples c.off-input.ensures c.off-output.ensures c.in_err-judge.ensures) in
    let said : say c.from_residual-in_err-judge.result ≡ refused c.in_err-judge.field-0.0 = search rules in
    record { answer = said ∙ kept_so.answer; sums = kept_so.sums; counts = kept_so.counts }

pub add_judged-requires : goal.add_judged-requires
add_judged-requires c =
    let no_couples = is_plain _ c.in_ok-plain.ensures in
    record { plain = no_couples; judged_so = judged_so _ _ _ _ (sym (said_so _ _ _ no_couples c.off-input.ensures c.off-output.ensures c.in_ok-judge.ensures)) }
