-- `lte::is_listed` is the test of the size, at profile 8.
use mathlib.Core.Bool.{◌&&◌}
use mathlib.Core.Path.{ap}
use Prim.Native.Nat.{ℕ, ◌%◌}
use lib.Dec.{leb, eqb}
use Rattle.profiles.specs.Profiles.{entry_by}
use Rattle.sizes.specs.Tests.{size_listed}
use Rattle.lte.proofs.is_listed.Goals as goal

pub returns : goal.returns
unfolding size_listed entry_by
returns c =
    let k = c.args.k in
    ap (λ (u : ℕ). leb 40 k && (leb k 6144 && eqb (k % u) 0)) c.step_by.ensures.value
