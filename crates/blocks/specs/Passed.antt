-- Behind a block that was judged and a table that was filled: the loops that move the block by it may run, and what they leave is the output of the
-- call. Over any element.
use Rattle.std.specs.Prelude.{ℕ, List, ◌≡◌, length}
use Rattle.std.proofs.Math.Path.{sym, ap}
use Rattle.std.proofs.Common.{◌∙◌, arith}
use Rattle.laws.specs.declared.Way.{Way}
use Rattle.laws.specs.Loop.{by}
use Rattle.sets.specs.declared.Set.{Set}
use Rattle.families.specs.Symbols.{symbols_of, block_l}
use Rattle.movers.specs.Moves.{Fitting, moved_by, moved_same}
use Rattle.tables.specs.Passed.{Judged, Tabled}
use Rattle.tables.proofs.Passed.{judged_output}
use Rattle.blocks.specs.Answer.{moved}

module _ {A : Type 0} {s : Set} {table : List ℕ} (src dst : List A) (e : Judged s (symbols_of s) (length src) (length dst)) (t : Tabled s table) where
  pub fitting : Fitting table src dst
  fitting = record {
    same = e.output ∙ sym e.input;
    room = omega (arith, t.room, e.input);
    within = λ k h. omega (arith, e.input, t.within k (omega (arith, e.input)));
  }

  -- moved by the table is moved by L
  pub output_is : (way asked : Way) (z : A) {got : List A} → way ≡ asked → got ≡ moved_by asked (by table) (length src) z src dst → got ≡ moved way s z src dst
  unfolding moved
  output_is way asked z w q =
      q ∙ ap (λ (v : Way). moved_by v (by table) (length src) z src dst) (sym w)
      ∙ ap (λ (n : ℕ). moved_by way (by table) n z src dst) e.input
      ∙ moved_same way (by table) (block_l s) (symbols_of s) z src dst t.holds
      ∙ sym (judged_output e (moved_by way (block_l s) (symbols_of s) z src dst) dst)
