-- `rows_of` is R, case by case.
use mathlib.Core.Path.{◌∙◌, sym}
use Rattle.wcdma_shape.proofs.Cases.{rows_a, rows_b, rows_c, rows_d}
use Rattle.wcdma_shape.proofs.rows_of.Goals as goal

pub returns-then-k-lt160 : goal.returns-then-k-lt160
returns-then-k-lt160 c = sym (rows_a _ c.requires.low c.if-k-lt160.true)

pub returns-then-k-lt201 : goal.returns-then-k-lt201
returns-then-k-lt201 c = sym (rows_b _ c.if-k-lt160.false c.if-k-lt201.true)

pub returns-then-is_within : goal.returns-then-is_within
returns-then-is_within c = sym (rows_c _ c.if-k-lt201.false (sym c.is_within.ensures ∙ c.if-is_within.true))

pub returns : goal.returns
returns c = sym (rows_d _ c.if-k-lt201.false (sym c.is_within.ensures ∙ c.if-is_within.false))
