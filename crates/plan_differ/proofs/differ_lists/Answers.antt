-- `plan_differ::differ_lists` looks for a position, and says what stands there in each file.
use mathlib.Core.Path.{◌∙◌}
use Rattle.plan_form.specs.Lists.{listed_inside}
use Rattle.plan_differ.specs.Seeking.{lists_even, lists_apart}
use Rattle.plan_differ.proofs.differ_lists.Goals as goal

pub seek-requires : goal.seek-requires
seek-requires c = (listed_inside c.listing_at-one.ensures c.requires.0, listed_inside c.listing_at-two.ensures c.requires.1)

pub place_at-requires : goal.place_at-requires
place_at-requires c = listed_inside c.listing_at-one.ensures c.requires.0

pub place_at-requires-2 : goal.place_at-requires-2
place_at-requires-2 c = listed_inside c.listing_at-two.ensures c.requires.1

pub returns-in_err-p : goal.returns-in_err-p
returns-in_err-p c = c.from_residual.ensures ∙ lists_even _ c.listing_at-one.ensures c.listing_at-two.ensures c.in_err-p.ensures.value

pub returns : goal.returns
returns c = lists_apart _ c.listing_at-one.ensures c.listing_at-two.ensures c.in_ok-p.ensures.value c.place_at.ensures c.place_at-2.ensures
