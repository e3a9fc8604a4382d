-- `next_exponent` is the next exponent.
use Prim.Native.Nat.{◌%◌, ◌+◌, ◌-◌, ℕ}
use mathlib.Core.Path.{◌∙◌, ◌≡◌, ap, sym}
use native.Mathlib.Nat.{add-mod_right, mod-eq_of_lt}
use native.Mathlib.Omega.{arith}
use Rattle.wcdma_cells.proofs.next_exponent.Goals as goal

pub returns-then-e-fall : goal.returns-then-e-fall
returns-then-e-fall c = let h = c.if-e-fall.true in sym (mod-eq_of_lt (omega arith) ∙ omega arith)

pub returns-else-e-fall : goal.returns-else-e-fall
returns-else-e-fall c =
    let a = c.args in
    let e : a.e + (a.m - a.fall) ≡ (a.e - a.fall) + a.m = omega (arith, c.if-e-fall.false) in
    sym (ap (λ (x : ℕ). x % a.m) e ∙ add-mod_right (a.e - a.fall) a.m ∙ mod-eq_of_lt (omega arith))
