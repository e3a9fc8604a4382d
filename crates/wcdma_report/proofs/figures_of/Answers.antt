-- `figures_of` gives the line of a K that is 40 to 5,114, and else 3.
use mathlib.Core.Path.{sym, ap, ◌∙◌}
use Rattle.laws.specs.Outcome.{done, refused}
use Rattle.sets.specs.declared.Set.{Set}
use Rattle.sets.specs.Verdict.{refusal}
use Rattle.wcdma_report.specs.Report.{figures_of}
use Rattle.wcdma_report.specs.Sized.{is_size_lem}
use Rattle.wcdma_report.proofs.figures_of.Goals as goal

pub returns-then-not-is_size : goal.returns-then-not-is_size
unfolding figures_of
returns-then-not-is_size c =
    ap refused (c.refusal_of.ensures ∙ ap (λ (x : Set). refusal x 3) c.turbo_set.ensures)
    ∙ simp (sym c.is_size.ensures ∙ c.if-not-is_size.true)

pub figures_in-requires : goal.figures_in-requires
figures_in-requires c = is_size_lem _ (sym c.is_size.ensures ∙ c.if-not-is_size.false)

pub returns : goal.returns
unfolding figures_of
returns c =
    ap done c.figures_in.ensures ∙ simp (sym c.is_size.ensures ∙ c.if-not-is_size.false)
