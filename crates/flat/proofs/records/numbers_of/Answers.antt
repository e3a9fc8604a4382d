-- `flat::records::numbers_of` puts the places behind kind and branch. The invariant: the first i + 2 numbers are the record's.
use Prim.Native.Nat.{ℕ, suc, ◌+◌}
use mathlib.Core.Path.{◌≡◌, sym, ap, ◌∙◌}
use native.Mathlib.Omega.{arith}
use lib.ListN.{length, get_or}
use borrow.Author.Rules.{rules}
use Rattle.laws.specs.Run.{run, run_get_or}
use Rattle.laws.specs.Fill.{filled_more, filled_all}
use Rattle.flat.specs.Flat.{stream_list}
use Rattle.flat.proofs.records.numbers_of.Goals as goal

pub loop-i-preserved : goal.loop-i-preserved
loop-i-preserved c =
    let i = c.loop-i.i in
    let y : i + 1 + 2 ≡ i + 2 + 1 = omega arith in
    let z : 0 + (i + 2) ≡ suc (suc i) = omega arith in
    rw y (filled_more _ _ _ _ _ _ c.loop-i.invariant (omega arith) (rw z))

pub returns : goal.returns
returns c =
    let s = c.args.s in
    let e : c.loop-i.i + 2 ≡ 53 = omega arith in
    let l : length s.places ≡ 51 = search rules in
    filled_all _ _ _ _ (rw e at c.loop-i.invariant) ∙ ap (λ (n : ℕ). run (λ k. get_or (stream_list s) k 0) 0 (suc (suc n))) (sym l) ∙ run_get_or (stream_list s) 0
