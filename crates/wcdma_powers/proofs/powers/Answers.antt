-- `powers` fills the first half of S step by step, and has the second half from it. The invariant: the powers below x stand in their places,
-- and last is the power x.
use Prim.Native.Nat.{◌-◌, ℕ}
use borrow.Author.Count.{below_none}
use lib.ListN.{length-set}
use mathlib.Core.Path.{◌∙◌, ap, refl}
use native.Mathlib.Nat.{mod-lt}
use native.Mathlib.Omega.{arith}
use Rattle.laws.specs.Entries.{fill_more}
use Rattle.wcdma_powers.proofs.Halves.{both_halves}
use Rattle.wcdma_powers.proofs.Steps.{power_next}
use Rattle.wcdma_shape.specs.Powers.{power}
use Rattle.wcdma_shape.specs.Roots.{power_lt, power_pos}
use Rattle.wcdma_powers.proofs.powers.Goals as goal

pub loop-x-init : goal.loop-x-init
unfolding power
loop-x-init c = (c.requires.long, omega (arith, c.requires.root.big), refl, below_none _)

pub overflow_sub-s : goal.overflow_sub-s
overflow_sub-s c = let l = c.loop-x in omega (arith, l.invariant.2, power_pos c.requires.root l.x, c.requires.least)

pub loop-x-preserved : goal.loop-x-preserved
loop-x-preserved c =
    let l = c.loop-x in
    let e = c.next_power-last.ensures in
    let a = c.args in
    let z = c.requires in (
      simp length-set l.invariant.0,
      rw e (mod-lt _ (omega (arith, z.root.big))),
      e ∙ power_next _ _ l.x l.last l.invariant.2,
      fill_more (λ y. power a.p a.v y - a.less) l.s l.x (l.last - a.less)
          (omega (arith, l.invariant.0, c.loop-x-test.true, z.small)) (ap (λ (y : ℕ). y - a.less) l.invariant.2) l.invariant.3,
    )

pub second_half-requires : goal.second_half-requires
second_half-requires c =
    let z = c.requires in
    let l = c.loop-x in
    record {
      room = omega (arith, z.small);
      small = omega (arith, z.small);
      low = λ x h.
          omega (arith, l.invariant.3 x (omega (arith, c.loop-x-test.false)), power_lt z.root x, z.least);
      long = l.invariant.0;
    }

pub returns : goal.returns
returns c =
    let l = c.loop-x in
    both_halves c.requires (λ x h. l.invariant.3 x (omega (arith, c.loop-x-test.false))) c.second_half.ensures
