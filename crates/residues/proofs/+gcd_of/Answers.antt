-- `gcd_of` is the greatest common divisor: each call is a step of Euclid.
use Rattle.std.proofs.Common.{sym, ◌∙◌}
use Rattle.laws.specs.Euclid.{gcd_step, gcd_zero}
use Rattle.residues.proofs.+gcd_of.Goals as goal

pub returns-then-b-eq0 : goal.returns-then-b-eq0
returns-then-b-eq0 t c = rw (c.if-b-eq0.true, gcd_zero)

pub returns-else-b-eq0 : goal.returns-else-b-eq0
returns-else-b-eq0 t c = c.gcd_of.ensures ∙ sym (gcd_step c.args.a c.args.b c.if-b-eq0.false)
