-- `carrier_rows::RowSpot::new` sets the walk for L up at a column of a row.
use Prim.Native.Nat.{ℕ, ◌+◌, ◌-◌, ◌*◌, ◌%◌}
use mathlib.Core.Path.{◌≡◌, refl, ap}
use native.Mathlib.Nat.{mod-le}
use native.Mathlib.Omega.{arith}
use Rattle.carrier_rows.proofs.RowSpot.new.Goals as goal

pub returns : goal.returns
returns c =
    let a = c.args in
    let split : a.col - a.col % a.b.s + a.col % a.b.s ≡ a.col = omega (arith, mod-le a.col a.b.s) in
    record { low_is = refl; base_is = omega (arith, ap (λ (x : ℕ). a.b.d * x) split); lift_is = refl }
