-- `totals_of` gives the totals where 40 ≤ first ≤ last ≤ 5,114, and else 3.
use mathlib.Core.Path.{sym, ap, ◌∙◌}
use Rattle.laws.specs.Outcome.{done}
use Rattle.wcdma_report.specs.Report.{totals_of}
use Rattle.wcdma_report.specs.Sized.{is_range_lem}
use Rattle.wcdma_report.proofs.totals_of.Goals as goal

pub returns-then-not-is_range : goal.returns-then-not-is_range
unfolding totals_of
returns-then-not-is_range c = simp (sym c.is_range.ensures ∙ c.if-not-is_range.true)

pub totals_in-requires : goal.totals_in-requires
totals_in-requires c = is_range_lem _ _ (sym c.is_range.ensures ∙ c.if-not-is_range.false)

pub returns : goal.returns
unfolding totals_of
returns c =
    ap done c.totals_in.ensures ∙ simp (sym c.is_range.ensures ∙ c.if-not-is_range.false)
