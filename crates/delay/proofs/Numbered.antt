-- Bytes that may be equal, each with its number: these can be told apart, and a machine does with them what it does with the bytes. Over bytes of
-- any type.
use Rattle.std.specs.Prelude.{ℕ, suc, ◌<◌, ◌≡◌, List, map, length, get_or, replicate}
use Rattle.std.proofs.Common.{sym, ap, ◌∙◌, zero-add, arith}
use Rattle.laws.specs.Run.{length_run, get_or_run, run_get_or}
use Rattle.laws.specs.Blind.{map_run}
use Rattle.laws.specs.declared.Way.TheVariants.{Deinterleaver}
use Rattle.delay.specs.Machine.{machine, Stand, Slot, offset, run_output, comes_at}
use Rattle.delay.specs.Bytes.{slot_at}
use Rattle.delay.specs.Cuts.{replicate_map, output_map}
use Rattle.delay.specs.Burst.{Labels, Only}
use Rattle.delay.proofs.Burst.{only, comes_behind}
use Rattle.delay.specs.Numbered.{pair, numbered, number, byte_of}

module _ {A : Type 0} (f : A) where
  numbered_long : (xs : List A) → length (numbered f xs) ≡ length xs
  numbered_long xs = length_run (pair f xs) 0 (length xs)

  numbered_at : (xs : List A) (a : ℕ) → a < length xs → get_or (numbered f xs) a (0, f) ≡ pair f xs a
  numbered_at xs a l = get_or_run (pair f xs) 0 (length xs) a (0, f) l ∙ ap (pair f xs) (zero-add a)

  -- with their numbers, bytes can be told apart
  labelled : (xs : List A) → Labels (0, f) (numbered f xs)
  labelled xs = record {
    not_fill = λ a l e. let n : suc a ≡ 0 = sym (named a l) ∙ ap (number f) e in absurd (omega (arith, n));
    own = λ a c la lc e. let n : suc a ≡ suc c = sym (named a la) ∙ ap (number f) e ∙ named c lc in omega (arith, n);
  }
    where
      named : (a : ℕ) → a < length (numbered f xs) → number f (get_or (numbered f xs) a (0, f)) ≡ suc a
      named a l = ap (number f) (numbered_at xs a (rw (numbered_long xs) at l))

  -- a machine gives the same bytes with and without their numbers
  pub bytes_same : {R : Type 0} (slot : R → Slot) (next : R → R) (r : R) (n : ℕ) (xs : List A)
      → run_output slot next r (replicate n f) xs ≡ map (byte_of f) (run_output slot next r (replicate n (0, f)) (numbered f xs))
  bytes_same slot next r n xs =
      let bytes : map (byte_of f) (numbered f xs) ≡ xs = map_run (byte_of f) (pair f xs) 0 (length xs) ∙ run_get_or xs f in
      let fills : replicate n f ≡ map (byte_of f) (replicate n (0, f)) = replicate_map (byte_of f) n (0, f) in
      rw (bytes, ← fills) at (output_map (byte_of f) slot next (numbered f xs) r (replicate n (0, f)))

  -- of a deinterleaver's output, byte a, and no equal one, stands at its place and nowhere else
  module _ (b s : ℕ) (hb : 0 < b) (hs : 0 < s) (R : Stand) (at_first : R.branch ≡ 0) where
    pub stands_alone : (xs : List A) (a : ℕ) → comes_at b s a < length xs
        → Only (0, f) (run_output (slot_at (machine b s hb hs Deinterleaver) R) suc 0 (replicate (offset s b) (0, f)) (numbered f xs)) (comes_at b s a) (pair f xs a)
    stands_alone xs a l =
        let la : a < length xs = omega (arith, l, comes_behind b s hb hs a) in
        rw (numbered_at xs a la) at (only b s hb hs R at_first (0, f) (numbered f xs) (labelled xs) a (rw (numbered_long xs) l))
