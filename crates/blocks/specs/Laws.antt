-- What a block call does to the symbols, over the definitions that its contract cites and over any element: each symbol goes where L and M
-- of the block's symbols send it and comes back, whatever stood in the output before, and no value decides anything.
use Rattle.std.specs.Prelude.{ℕ, ◌<◌, ◌≡◌, length, get_or}
use mathlib.Core.List.{List, map}
use Rattle.std.proofs.Common.{sym, ◌∙◌}
use Rattle.std.proofs.Math.Path.{ap, ap₂}
use Rattle.std.proofs.lemmas.List.{length-map}
use Rattle.laws.specs.declared.Way.{Way}
use Rattle.laws.specs.Outcome.{done, after, after_map, after_same}
use Rattle.laws.specs.Perm.{Perm}
use Rattle.laws.specs.Move.{gather, get_or_gather, length_gather, back}
use Rattle.sets.specs.declared.Set.{Set}
use Rattle.families.specs.Symbols.{symbols_of, block_rule, block_l, block_in}
use Rattle.tables.specs.Answer.{block_lines, moved_of}
use Rattle.movers.specs.Moves.{other, perm_in, moved_by, moved_is, moved_any, moved_blind}
use Rattle.tables.proofs.Passed.{its_perm, its_lengths, its_output}
use Rattle.blocks.specs.Answer.{moved}

-- where a call is done
module _ {A : Type 0} (way : Way) (s : Set) (z : A) (src dst : List A) (e : moved_of s (symbols_of s) (length src) (length dst) ≡ done tt) where
  -- the output is gathered from the input by the list of the way
  pub gathered : moved way s z src dst ≡ gather (block_in way s).l (symbols_of s) z src
  unfolding moved
  gathered =
      its_output s (symbols_of s) (length src) (length dst) e (moved_by way (block_l s) (symbols_of s) z src dst) dst
      ∙ moved_is way (block_rule s) (its_perm s (symbols_of s) (length src) (length dst) e) src dst z (its_lengths s (symbols_of s) (length src) (length dst) e).1

  perm : Perm (symbols_of s) (block_in way s).l (block_in (other way) s).l
  perm = perm_in way (block_rule s) (its_perm s (symbols_of s) (length src) (length dst) e)

  -- entry t of the output is the entry of the input that the list of the way has at t: L(t), or M(t) ..
  pub source_of : (t : ℕ) → t < symbols_of s → get_or (moved way s z src dst) t z ≡ get_or src ((block_in way s).l t) z
  source_of t h = ap (λ (l : List A). get_or l t z) gathered ∙ get_or_gather (block_in way s).l (symbols_of s) z src t h

  -- .. and entry k of the input goes where the list of the other way sends it
  pub target_of : (k : ℕ) → k < symbols_of s → get_or (moved way s z src dst) ((block_in (other way) s).l k) z ≡ get_or src k z
  target_of k h = source_of ((block_in (other way) s).l k) (perm.m_below k h) ∙ ap (λ (x : ℕ). get_or src x z) (perm.l_of_m k h)

  -- a block that was moved is as long as it was
  pub as_long : length (moved way s z src dst) ≡ length src
  as_long = ap length gathered ∙ length_gather (block_in way s).l (symbols_of s) z src ∙ sym (its_lengths s (symbols_of s) (length src) (length dst) e).0

-- one way and then the other
pub there_and_back : {A : Type 0} (way : Way) (s : Set) (z : A) (src mid out : List A) → moved_of s (symbols_of s) (length src) (length mid) ≡ done tt
    → moved_of s (symbols_of s) (length src) (length out) ≡ done tt → moved (other way) s z (moved way s z src mid) out ≡ src
there_and_back {A} way s z src mid out e f =
    gathered (other way) s z (moved way s z src mid) out (ap (λ (x : ℕ). moved_of s (symbols_of s) x (length out)) (as_long way s z src mid e) ∙ f)
    ∙ ap (λ (l : List A). gather (block_in (other way) s).l (symbols_of s) z l) (gathered way s z src mid e)
    ∙ back (perm way s z src mid e) z src (its_lengths s (symbols_of s) (length src) (length mid) e).0

-- the stand-in is never read
pub stand_in : {A : Type 0} (way : Way) (s : Set) (y z : A) (src dst : List A) → moved way s y src dst ≡ moved way s z src dst
unfolding moved
stand_in way s y z src dst =
    after_same (block_lines s (symbols_of s) (length src) (length dst)) dst
    (λ c.
    let e : moved_of s (symbols_of s) (length src) (length dst) ≡ done tt = rw c in
    moved_any way (block_rule s) (its_perm s (symbols_of s) (length src) (length dst) e) src dst y z (its_lengths s (symbols_of s) (length src) (length dst) e).0)

-- every symbol changed by any function from any type to any other, the call answers the same and moves the changed symbols the same way,
-- whatever stands in for a symbol that is not there, on either side
module _ {A B : Type 0} (h : A → B) (s : Set) (src dst : List A) where
  pub blind : (way : Way) (y : B) (z : A) → moved way s y (map h src) (map h dst) ≡ map h (moved way s z src dst)
  unfolding moved
  blind way y z =
      stand_in way s y (h z) (map h src) (map h dst)
      ∙ ap₂ (λ (i o : ℕ). after (block_lines s (symbols_of s) i o) (moved_by way (block_l s) (symbols_of s) (h z) (map h src) (map h dst)) (map h dst)) (length-map src h) (length-map dst h)
      ∙ ap (λ (l : List B). after (block_lines s (symbols_of s) (length src) (length dst)) l (map h dst)) (moved_blind h way (block_l s) (symbols_of s) z src dst)
      ∙ after_map (map h) (block_lines s (symbols_of s) (length src) (length dst)) (moved_by way (block_l s) (symbols_of s) z src dst) dst
