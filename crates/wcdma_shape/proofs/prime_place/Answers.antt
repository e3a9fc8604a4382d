-- `prime_place` is where p stands in the table.
use mathlib.Core.Path.{refl, sym, ◌∙◌}
use native.Mathlib.Omega.{arith}
use borrow.Author.Rules.{rules}
use Rattle.wcdma_shape.proofs.Cases.{prime_middle, rows_some, seek_first, seek_out, seek_found, seek_on}
use Rattle.wcdma_shape.specs.Rectangle.{primes}
use Rattle.wcdma_shape.proofs.prime_place.Goals as goal

pub returns-then-is_within : goal.returns-then-is_within
unfolding primes
returns-then-is_within c = record { listed = omega arith; prime_is = sym (prime_middle _ (sym c.is_within.ensures ∙ c.if-is_within.true)) }

pub loop-n-init : goal.loop-n-init
loop-n-init c = seek_first c.requires (sym c.is_within.ensures ∙ c.if-is_within.false)

pub returns-then-least-list : goal.returns-then-least-list
returns-then-least-list c =
    record {
      listed = search rules;
      prime_is = seek_found c.requires c.loop-n.invariant c.loop-n-test.true refl c.if-least-list.true;
    }

pub loop-n-preserved : goal.loop-n-preserved
loop-n-preserved c =
    seek_on c.requires c.loop-n.invariant c.loop-n-test.true refl c.if-least-list.false

pub returns : goal.returns
unfolding primes
returns c =
    record { listed = omega arith; prime_is = sym (seek_out c.requires c.loop-n.invariant c.loop-n-test.false) }

pub nonzero_div-least : goal.nonzero_div-least
nonzero_div-least c = rows_some c.requires
