-- `fitting::fitting_of` asks for the form where the profile and the bits are listed; where they aren't, no size is.
use mathlib.Core.Bool.{true≢false}
use mathlib.Core.Path.{sym, ◌∙◌}
use Rattle.sizes.specs.Tests.{profile_listed, bits_listed}
use Rattle.sizes.specs.Admits.{listed_passing}
use Rattle.fitting.specs.NextSize.{fitting_none}
use Rattle.fitting.proofs.fitting_of.Goals as goal

pub returns-then-not-profile_listed : goal.returns-then-not-profile_listed
unfolding profile_listed
returns-then-not-profile_listed c = fitting_none _ (λ n i. true≢false (sym (listed_passing _ i).profile_passes ∙ sym c.profile_listed.ensures ∙ c.if-not-profile_listed.true))

pub returns-then-not-bits_listed : goal.returns-then-not-bits_listed
unfolding bits_listed
returns-then-not-bits_listed c = fitting_none _ (λ n i. true≢false (sym (listed_passing _ i).bits_pass ∙ sym c.bits_listed.ensures ∙ c.if-not-bits_listed.true))

pub next_listed-requires : goal.next_listed-requires
next_listed-requires c =
    (sym c.profile_listed.ensures ∙ c.if-not-profile_listed.false, sym c.bits_listed.ensures ∙ c.if-not-bits_listed.false)
