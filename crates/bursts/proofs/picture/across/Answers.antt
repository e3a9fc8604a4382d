-- No byte comes out before its own number, so nothing is taken from less.
use Prim.Native.Nat.{◌+◌}
use native.Mathlib.Omega.{arith}
use Rattle.delay.proofs.Burst.{comes_behind}
use Rattle.kinds.specs.Kinds.{sizes_of, sound}
use Rattle.bursts.proofs.picture.across.Goals as goal

pub overflow_sub-result : goal.overflow_sub-result
overflow_sub-result c =
    let a = c.args in
    let z = sound a.burst.kind in
    omega (arith, c.place.ensures, comes_behind (sizes_of a.burst.kind).branches (sizes_of a.burst.kind).step z.some_branches z.some_step (a.burst.at + a.i))
