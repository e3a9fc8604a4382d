-- `line` is what stands before the first LF, or all where there is none.
use mathlib.Core.Path.{◌∙◌, ap}
use Rattle.std.specs.Prelude.{ℕ, Option, length, unwrap_or}
use lib.ListN.{take}
use Rattle.report_asked.specs.Split.{line_found, take_line}
use Rattle.report_asked.proofs.line.Goals as goal

pub returns : goal.returns
returns c =
    let s = c.args.s.now in
    let e = c.unwrap_or-e.ensures ∙ ap (λ (o : Option ℕ). unwrap_or o (length s)) c.line_feed.ensures ∙ line_found s in
    ap (λ (k : ℕ). take k s) e ∙ take_line s
