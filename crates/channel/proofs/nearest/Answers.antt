-- The invariant: d is the least distance between any two of the first k bytes.
use mathlib.Core.Path.{ap, ◌∙◌}
use native.Mathlib.Omega.{arith}
use Prim.Native.Nat.{ℕ, min}
use Rattle.channel.specs.Nearest.{gone_one, gone_more, gone_all}
use borrow.Author.Rules.{rules}
use Rattle.channel.proofs.nearest.Goals as goal

pub loop-k-init : goal.loop-k-init
loop-k-init c = search (rules, gone_one)

pub loop-k-preserved : goal.loop-k-preserved
loop-k-preserved c =
    let l = c.loop-k in
    (gone_more _ _ _ _ _ l.invariant.0 (omega (arith, l.auto.k)) (c.min-d.ensures ∙ ap (λ (e : ℕ). min l.d e) c.from_earlier.ensures), omega arith)

pub returns : goal.returns
returns c = let l = c.loop-k in gone_all _ _ _ _ _ l.invariant.0 (omega arith)
