-- `plans::writing::length_of` counts the sets, tests them, and looks at their file's length.
use mathlib.Core.Path.{◌≡◌, ◌∙◌}
use borrow.Author.Rules.{rules}
use Rattle.laws.specs.Outcome.{refused, say}
use Rattle.plans.proofs.WritingLaws.{length_uneven, length_few, length_many, length_stops, length_large, length_good}
use Rattle.plans.proofs.writing.length_of.Goals as goal

pub returns-then-len-ne0 : goal.returns-then-len-ne0
returns-then-len-ne0 c = length_uneven _ c.if-len-ne0.true

pub returns-then-count-lt1 : goal.returns-then-count-lt1
returns-then-count-lt1 c = length_few _ c.if-len-ne0.false c.if-count-lt1.true

pub returns-then-count-gt-PLANS : goal.returns-then-count-gt-PLANS
returns-then-count-gt-PLANS c = length_many _ c.if-len-ne0.false c.if-count-lt1.false c.if-count-gt-PLANS.true

pub returns-then-bytes-gt-ROOM : goal.returns-then-bytes-gt-ROOM
returns-then-bytes-gt-ROOM c = length_large _ c.if-len-ne0.false c.if-count-lt1.false c.if-count-gt-PLANS.false c.in_ok-bytes.ensures c.if-bytes-gt-ROOM.true

pub returns-in_err-bytes : goal.returns-in_err-bytes
returns-in_err-bytes c =
    let said : say c.from_residual.result ≡ refused c.in_err-bytes.field-0.0 = search rules in
    said ∙ length_stops _ c.if-len-ne0.false c.if-count-lt1.false c.if-count-gt-PLANS.false c.in_err-bytes.ensures

pub returns : goal.returns
returns c = length_good _ c.if-len-ne0.false c.if-count-lt1.false c.if-count-gt-PLANS.false c.in_ok-bytes.ensures c.if-bytes-gt-ROOM.false
