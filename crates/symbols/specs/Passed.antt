-- Behind a block that was judged and a table that was filled: the loops that move symbols by it may run, and what they leave is the output of the
-- call. Over any element.
use Rattle.std.specs.Prelude.{ℕ, ◌*◌, ◌≡◌, length}
use mathlib.Core.List.{List, []}
use Rattle.std.proofs.Math.Path.{sym, ap}
use Rattle.std.proofs.Common.{◌∙◌}
use Rattle.laws.specs.declared.Way.{Way}
use Rattle.laws.specs.Loop.{by}
use Rattle.sets.specs.declared.Set.{Set}
use Rattle.families.specs.Symbols.{symbols_of, block_l}
use Rattle.movers.specs.Moves.{moved_same}
use Rattle.tables.specs.Passed.{Judged, Tabled}
use Rattle.tables.proofs.Passed.{judged_output}
use Rattle.symbol_movers.specs.Groups.{groups, joined}
use Rattle.symbol_movers.specs.Grouped.{symbols_by, Movable}
use Rattle.symbols.specs.Answer.{moved_symbols}

module _ {A : Type 0} {s : Set} (w : ℕ) {table : List ℕ} (src dst : List A) (e : Judged s (symbols_of s * w) (length src) (length dst)) (t : Tabled s table) where
  module _ {n : ℕ} (z : n ≡ symbols_of s) where
    pub movable : Movable table n w src dst
    movable = rw z (record { room = t.room; within = t.within; src_long = e.input; dst_long = e.output })

    -- moved by the table is moved by L
    pub output_is : (way asked : Way) {got : List A} → way ≡ asked → got ≡ symbols_by asked (by table) n w src dst → got ≡ moved_symbols way s w src dst
    unfolding moved_symbols
    output_is way asked v q =
        q ∙ ap (λ (x : Way). symbols_by x (by table) n w src dst) (sym v)
        ∙ ap (λ (x : ℕ). symbols_by way (by table) x w src dst) z
        ∙ ap joined (moved_same way (by table) (block_l s) (symbols_of s) [] (groups w (symbols_of s) src) (groups w (symbols_of s) dst) t.holds)
        ∙ sym (judged_output e (symbols_by way (block_l s) (symbols_of s) w src dst) dst)
