-- The invariant: d is the least distance of byte k from bytes 0 to i - 1.
use mathlib.Core.Path.{◌≡◌, refl, ap, ◌∙◌}
use native.Mathlib.Omega.{arith}
use borrow.Author.Rules.{rules}
use Prim.Native.Nat.{ℕ, min}
use Rattle.channel.specs.Nearest.{gone_one, gone_more, gone_before}
use Rattle.channel.proofs.from_earlier.Goals as goal

pub loop-i-init : goal.loop-i-init
loop-i-init c = search (rules, gone_one)

pub loop-i-preserved : goal.loop-i-preserved
loop-i-preserved c = gone_more _ _ _ _ _ c.loop-i.invariant refl (c.min-d.ensures ∙ ap (λ (e : ℕ). min c.loop-i.d e) c.distance.ensures)

pub returns : goal.returns
returns c =
    let e : c.loop-i.i ≡ c.args.k = omega (arith, c.loop-i.auto.i-end) in
    gone_before _ _ _ _ (rw e at c.loop-i.invariant)
