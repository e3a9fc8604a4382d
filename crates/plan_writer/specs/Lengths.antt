-- The lengths of a file's parts, and of the whole.
use Rattle.std.specs.Prelude.{ℕ, ◌+◌, ◌*◌, List, [], ◌∷◌, ◌++◌, ◌≡◌, refl, length}
use Rattle.std.proofs.Common.{ap, ◌∙◌, arith, length-append}
use Rattle.laws.specs.Run.{length_run}
use Rattle.big_end.specs.Numbers.{number_bytes, pair_bytes}
use Rattle.sets.specs.declared.Set.{Set}
use Rattle.families.specs.Rules.{L}
use Rattle.pieces.specs.Pieces.{list_of}
use Rattle.plan_form.specs.Form.{entry_place}
use Rattle.plan_writer.specs.File.{entry_bytes, entries_bytes, list_bytes, lists_bytes, file_of, total_of, file_length}

pub entry_length : (s : Set) (at : ℕ) → length (entry_bytes s at) ≡ 20
unfolding entry_bytes
entry_length s at = refl

pub list_length : (vs : List ℕ) → length (list_bytes vs) ≡ 2 * length vs
unfolding list_bytes
list_length [] = refl
list_length (v ∷ vs) = omega (arith, list_length vs)

pub listed_length : (s : Set) → length (list_bytes (list_of s)) ≡ 2 * s.n
listed_length s = list_length (list_of s) ∙ ap (λ (k : ℕ). 2 * k) (length_run (L s) 0 s.n)

pub entries_length : (ss : List Set) (at : ℕ) → length (entries_bytes ss at) ≡ 20 * length ss
unfolding entries_bytes
entries_length [] at = refl
entries_length (s ∷ ss) at =
    length-append (entry_bytes s at) (entries_bytes ss (at + 2 * s.n)) ∙ omega (arith, entry_length s at, entries_length ss (at + 2 * s.n))

lists_length : (ss : List Set) → length (lists_bytes ss) ≡ 2 * total_of ss
unfolding lists_bytes
lists_length [] = refl
lists_length (s ∷ ss) = length-append (list_bytes (list_of s)) (lists_bytes ss) ∙ omega (arith, listed_length s, lists_length ss)

pub file_length_lem : (ss : List Set) → length (file_of ss) ≡ file_length ss
unfolding file_of file_length
file_length_lem ss =
    length-append (number_bytes (length ss)) (entries_bytes ss (entry_place (length ss)) ++ lists_bytes ss)
    ∙ omega (arith, length-append (entries_bytes ss (entry_place (length ss))) (lists_bytes ss), entries_length ss (entry_place (length ss)), lists_length ss)

-- a list of addresses in two parts
pub list-join : (vs ws : List ℕ) → list_bytes (vs ++ ws) ≡ list_bytes vs ++ list_bytes ws
unfolding list_bytes
list-join [] ws = refl
list-join (v ∷ vs) ws = ap (λ (l : List ℕ). pair_bytes v ++ l) (list-join vs ws)
