-- `leaves::is_barred` says whether a walk is not had.
use mathlib.Core.Bool.{◌||◌}
use mathlib.Core.Path.{sym, ap, ap₂, ◌∙◌}
use Rattle.laws.specs.declared.Way.{Way}
use Rattle.sets.specs.Set.{family_of}
use Rattle.families.specs.Rules.{barred}
use Rattle.families.specs.Taken.{one_way_lem}
use Rattle.leaves.proofs.is_barred.Goals as goal

pub returns-in-Deinterleaver : goal.returns-in-Deinterleaver
returns-in-Deinterleaver c =
    let f = family_of c.args.set in
    ap₂ ◌||◌ c.is_turbo.ensures (ap₂ ◌||◌ c.is_quadratic.ensures c.is_coupled.ensures)
    ∙ one_way_lem f
    ∙ sym (ap (λ (w : Way). barred w f) c.in-Deinterleaver.is)
