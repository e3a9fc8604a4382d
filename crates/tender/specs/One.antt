-- Symbols of one byte: the calls are those of `blocks` on bytes, for every input and output, refused ones included.
use Rattle.std.specs.Prelude.{ℕ, zero, suc, ◌<◌, List, [], ◌∷◌, ◌≡◌, refl, length, take, drop}
use Rattle.std.proofs.Common.{sym, ◌∙◌, mul-one, arith, drop-cons}
use Rattle.std.proofs.Math.Path.{ap}
use Rattle.std.proofs.Math.ListN.{get_or}
use Rattle.laws.specs.declared.Way.{Way}
use Rattle.laws.specs.Outcome.{done, after_same}
use Rattle.laws.specs.Run.{run, run_same}
use Rattle.laws.specs.Move.{gather}
use Rattle.sets.specs.declared.Set.{Set}
use Rattle.families.specs.Symbols.{symbols_of, block_rule, block_in}
use Rattle.tables.specs.Answer.{block_lines, moved_of}
use Rattle.movers.specs.Moves.{perm_in, moved_is}
use Rattle.tables.proofs.Passed.{its_perm, its_lengths}
use Rattle.blocks.specs.Answer.{moved}
use Rattle.symbol_movers.specs.Groups.{groups, joined, length_groups, get_or_groups}
use Rattle.symbols.specs.Answer.{moved_symbols}

module _ {A : Type 0} where
  joined_ones : (g : ℕ → A) (a n : ℕ) → joined (run (λ t. g t ∷ []) a n) ≡ run g a n
  joined_ones g a zero = refl
  joined_ones g a (suc n) = ap (λ (l : List A). g a ∷ l) (joined_ones g (suc a) n)

  -- a group of one is its entry
  group_one : (n : ℕ) (xs : List A) (z : A) (k : ℕ) → length xs ≡ n → k < n → get_or (groups 1 n xs) k [] ≡ get_or xs k z ∷ []
  group_one n xs z k e h =
      get_or_groups 1 n xs k h
      ∙ ap (λ (a : ℕ). take 1 (drop a xs)) (mul-one k)
      ∙ ap (take 1) (drop-cons xs k z (omega arith))

  -- to gather groups of one is to gather entries
  gather_one : (f : ℕ → ℕ) (n : ℕ) (z : A) (xs : List A) → length xs ≡ n → ((t : ℕ) → t < n → f t < n) → joined (gather f n [] (groups 1 n xs)) ≡ gather f n z xs
  unfolding gather
  gather_one f n z xs e below =
      ap joined (run_same (λ t. get_or (groups 1 n xs) (f t) []) (λ t. get_or xs (f t) z ∷ []) 0 n (λ t h. group_one n xs z (f t) e (below t (omega arith))))
      ∙ joined_ones (λ t. get_or xs (f t) z) 0 n

-- so the call on symbols of one byte is the call on bytes (`answer_one` of `tables` is its answer)
pub width_one : {A : Type 0} (way : Way) (s : Set) (z : A) (src dst : List A) → moved_symbols way s 1 src dst ≡ moved way s z src dst
unfolding moved_symbols moved
width_one way s z src dst =
    rw (mul-one (symbols_of s))
    (after_same (block_lines s (symbols_of s) (length src) (length dst)) dst
    (λ c.
    let e : moved_of s (symbols_of s) (length src) (length dst) ≡ done tt = rw c in
    let p = its_perm s (symbols_of s) (length src) (length dst) e in
    let l = its_lengths s (symbols_of s) (length src) (length dst) e in
    ap joined (moved_is way (block_rule s) p (groups 1 (symbols_of s) src) (groups 1 (symbols_of s) dst) [] (length_groups 1 (symbols_of s) dst))
    ∙ gather_one (block_in way s).l (symbols_of s) z src l.0 (perm_in way (block_rule s) p).l_below
    ∙ sym (moved_is way (block_rule s) p src dst z l.1)))
