-- `lines::run` is how far a run of bytes of one kind goes.
use mathlib.Core.Path.{◌∙◌, ap}
use Rattle.std.specs.Prelude.{ℕ, Option, length, unwrap_or}
use Rattle.lines.specs.Words.{run_found}
use Rattle.lines.proofs.run.Goals as goal

pub returns-clause-value : goal.returns-clause-value
returns-clause-value c =
    let s = c.args.line.now in
    c.unwrap_or.ensures ∙ ap (λ (o : Option ℕ). unwrap_or o (length s)) c.first_of.ensures ∙ run_found c.args.words s
