-- `prime_of` is p.
use mathlib.Core.Path.{refl, sym, ◌∙◌}
use Rattle.wcdma_shape.proofs.Cases.{prime_middle, rows_some, seek_first, seek_out, seek_found_p, seek_on}
use Rattle.wcdma_shape.proofs.prime_of.Goals as goal

pub returns-then-is_within : goal.returns-then-is_within
returns-then-is_within c = sym (prime_middle _ (sym c.is_within.ensures ∙ c.if-is_within.true))

pub loop-n-init : goal.loop-n-init
loop-n-init c = seek_first c.requires (sym c.is_within.ensures ∙ c.if-is_within.false)

pub returns-then-least-p : goal.returns-then-least-p
returns-then-least-p c =
    seek_found_p c.requires c.loop-n.invariant c.loop-n-test.true refl c.if-least-p.true

pub loop-n-preserved : goal.loop-n-preserved
loop-n-preserved c =
    seek_on c.requires c.loop-n.invariant c.loop-n-test.true refl c.if-least-p.false

pub returns : goal.returns
returns c = sym (seek_out c.requires c.loop-n.invariant c.loop-n-test.false)

pub nonzero_div-least : goal.nonzero_div-least
nonzero_div-least c = rows_some c.requires
