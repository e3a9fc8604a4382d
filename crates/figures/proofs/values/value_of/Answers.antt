-- `figures::values::value_of`: no not-a-number's pattern is read.
use mathlib.Core.Bool.{Bool, not}
use mathlib.Core.Path.{sym, subst, ◌∙◌}
use lib.Dec.{T}
use Rattle.figures.proofs.values.value_of.Goals as goal

pub float_from_bits-result : goal.float_from_bits-result
float_from_bits-result c = subst (λ (b : Bool). T (not b)) (sym c.if-is_blank.false ∙ c.is_blank.ensures) tt
