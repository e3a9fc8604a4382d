-- `find_numbers` finds the numbers q row by row. The invariant: those below i stand in their places, and what comes after last is q(i), which for
-- each p of the table is found.
use Prim.Native.Nat.{◌-◌, ◌<◌, ℕ}
use lib.ListN.{length-set}
use lib.Seq.{get_or-set_same}
use mathlib.Core.Path.{◌∙◌, ◌≡◌, ap, refl, sym}
use native.Mathlib.Omega.{arith}
use Rattle.laws.specs.Entries.{fill_more}
use Rattle.wcdma_shape.specs.Shape.{prime_big, prime_listed, prime_small, rows_le}
use Rattle.wcdma_setup.proofs.Steps.{first_next, q_next}
use Rattle.wcdma_setup.proofs.Found.{q_found}
use Rattle.wcdma_setup.specs.Numbers.{q_of}
use Rattle.wcdma_setup.proofs.find_numbers.Goals as goal

pub overflow_sub-m : goal.overflow_sub-m
overflow_sub-m c = omega (arith, prime_big c.args.shape.k, c.requires.shape.prime_is)

pub overflow_cast-m : goal.overflow_cast-m
overflow_cast-m c = omega (arith, prime_small c.args.shape.k, c.requires.shape.prime_is)

pub loop-i-init : goal.loop-i-init
unfolding q_of
loop-i-init c =
    let a = c.args in
    let z = c.requires in (
      simp length-set z.long,
      (λ y h. let e : y ≡ 0 = omega arith in rw e (get_or-set_same a.q.now 0 1 0 (omega (arith, z.long)))),
      first_next (a.shape.p - 1),
      refl,
      omega arith,
    )

pub next_q-last-requires : goal.next_q-last-requires
next_q-last-requires c =
    let k = c.args.shape.k in
    record {
      high = c.loop-i.invariant.4;
      odd = c.loop-i.invariant.3;
      some = λ e.
          q_found (prime_listed k) c.loop-i.i (omega (arith, rows_le k, c.requires.shape.rows_is))
          (sym (ap (λ (p : ℕ). q_of (p - 1) c.loop-i.i) c.requires.shape.prime_is) ∙ sym c.loop-i.invariant.2 ∙ e);
    }

pub offset_bounds-q-i : goal.offset_bounds-q-i
offset_bounds-q-i c = omega (arith, rows_le c.args.shape.k, c.requires.shape.rows_is)

pub bounds-q-i : goal.bounds-q-i
bounds-q-i c = omega (arith, rows_le c.args.shape.k, c.requires.shape.rows_is)

pub loop-i-preserved : goal.loop-i-preserved
loop-i-preserved c =
    let l = c.loop-i in
    let t = c.loop-i-test.true in
    let f : l.i < 20 = omega (arith, rows_le c.args.shape.k, c.requires.shape.rows_is) in
    let n = c.next_q-last.ensures.next_is ∙ l.invariant.2 in (
      simp length-set l.invariant.0,
      fill_more (q_of _) l.q l.i _ (omega (arith, l.invariant.0)) n l.invariant.1,
      q_next _ l.i _ n,
      c.next_q-last.ensures.odd,
      c.next_q-last.ensures.high,
    )
