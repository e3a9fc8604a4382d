-- What a call does to the symbols, over the definitions that its contract cites and over any element: each symbol goes where L and M send
-- it, whole, and comes back, whatever stood in the output before.
use Rattle.std.specs.Prelude.{ℕ, ◌*◌, ◌<◌, ◌≡◌, length, get_or, take, drop}
use mathlib.Core.List.{List, []}
use Rattle.std.proofs.Common.{sym, ◌∙◌}
use Rattle.std.proofs.Math.Path.{ap}
use Rattle.laws.specs.declared.Way.{Way}
use Rattle.laws.specs.Outcome.{done}
use Rattle.laws.specs.Perm.{Perm}
use Rattle.laws.specs.Move.{gather, get_or_gather, back}
use Rattle.sets.specs.declared.Set.{Set}
use Rattle.families.specs.Symbols.{symbols_of, block_rule, block_l, block_in}
use Rattle.tables.specs.Answer.{moved_of}
use Rattle.movers.specs.Moves.{other, perm_in, moved_is}
use Rattle.tables.proofs.Passed.{its_perm, its_lengths, its_output}
use Rattle.symbol_movers.specs.Groups.{groups, joined, length_groups, joined_groups, get_or_groups}
use Rattle.symbols.specs.Wide.{Wide, wide_groups, wide_gather, length_joined, groups_joined}
use Rattle.symbol_movers.specs.Grouped.{symbols_by}
use Rattle.symbols.specs.Answer.{moved_symbols}

-- where a call is done
module _ {A : Type 0} (way : Way) (s : Set) (w : ℕ) (src dst : List A) (e : moved_of s (symbols_of s * w) (length src) (length dst) ≡ done tt) where
  src_is : length src ≡ symbols_of s * w
  src_is = (its_lengths s (symbols_of s * w) (length src) (length dst) e).0

  perm : Perm (symbols_of s) (block_in way s).l (block_in (other way) s).l
  perm = perm_in way (block_rule s) (its_perm s (symbols_of s * w) (length src) (length dst) e)

  -- the symbols of the input, gathered by the list of the way: the block's symbols, of w each
  abbrev pub gathered : List (List A)
  gathered = gather (block_in way s).l (symbols_of s) [] (groups w (symbols_of s) src)

  wide : Wide w (symbols_of s) gathered
  wide = wide_gather (block_in way s).l perm.l_below (wide_groups w (symbols_of s) src src_is)

  -- the output is these, joined
  pub moved_joined : moved_symbols way s w src dst ≡ joined gathered
  unfolding moved_symbols
  moved_joined =
      its_output s (symbols_of s * w) (length src) (length dst) e (symbols_by way (block_l s) (symbols_of s) w src dst) dst
      ∙ ap joined (moved_is way (block_rule s) (its_perm s (symbols_of s * w) (length src) (length dst) e) (groups w (symbols_of s) src) (groups w (symbols_of s) dst) [] (length_groups w (symbols_of s) dst))

  pub moved_groups : groups w (symbols_of s) (moved_symbols way s w src dst) ≡ gathered
  moved_groups = ap (groups w (symbols_of s)) moved_joined ∙ groups_joined w (symbols_of s) gathered wide

  -- a block that was moved is as long as it was
  pub as_long : length (moved_symbols way s w src dst) ≡ length src
  as_long = ap length moved_joined ∙ length_joined w (symbols_of s) gathered wide ∙ sym src_is

  -- symbol t of the output is the symbol of the input that the list of the way has at t, all w bytes of it: L(t), or M(t) ..
  pub source_of : (t : ℕ) → t < symbols_of s → take w (drop (t * w) (moved_symbols way s w src dst)) ≡ take w (drop ((block_in way s).l t * w) src)
  source_of t h =
      sym (get_or_groups w (symbols_of s) (moved_symbols way s w src dst) t h)
      ∙ ap (λ (gs : List (List A)). get_or gs t []) moved_groups
      ∙ get_or_gather (block_in way s).l (symbols_of s) [] (groups w (symbols_of s) src) t h
      ∙ get_or_groups w (symbols_of s) src ((block_in way s).l t) (perm.l_below t h)

  -- .. and symbol k of the input goes where the list of the other way sends it
  pub target_of : (k : ℕ) → k < symbols_of s → take w (drop ((block_in (other way) s).l k * w) (moved_symbols way s w src dst)) ≡ take w (drop (k * w) src)
  target_of k h =
      source_of ((block_in (other way) s).l k) (perm.m_below k h) ∙ ap (λ (x : ℕ). take w (drop (x * w) src)) (perm.l_of_m k h)

-- one way and then the other
pub there_and_back : {A : Type 0} (way : Way) (s : Set) (w : ℕ) (src mid out : List A) → moved_of s (symbols_of s * w) (length src) (length mid) ≡ done tt
    → moved_of s (symbols_of s * w) (length src) (length out) ≡ done tt → moved_symbols (other way) s w (moved_symbols way s w src mid) out ≡ src
there_and_back {A} way s w src mid out e f =
    moved_joined (other way) s w (moved_symbols way s w src mid) out (ap (λ (x : ℕ). moved_of s (symbols_of s * w) x (length out)) (as_long way s w src mid e) ∙ f)
    ∙ ap (λ (gs : List (List A)). joined (gather (block_in (other way) s).l (symbols_of s) [] gs)) (moved_groups way s w src mid e)
    ∙ ap joined (back (perm way s w src mid e) [] (groups w (symbols_of s) src) (length_groups w (symbols_of s) src))
    ∙ joined_groups w (symbols_of s) src (src_is way s w src mid e)
