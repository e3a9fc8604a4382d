-- What the call for LTE's own factors has to say: 3 where K isn't listed for profile 8, else f1 and f2 of its row in the standard's table. And that a K
-- which passes the test of its size has a row.
use Rattle.std.specs.Prelude.{Bool, not, true, ◌&&◌, ◌↔◌, ◌≡◌, refl, ℕ, eqb}
use mathlib.Core.List.{List, [], ◌∷◌, Memᴰ}
use Rattle.std.proofs.Common.{ap, ap₂, arith, eqb-true}
use Rattle.laws.specs.Outcome.{Outcome, done, refused, Line, line, judged}
use Rattle.laws.specs.Members.{both, every, at_each}
use Rattle.laws.specs.Sentences.{Sentence, sentence, FirstTrue, Told, none, said_exactly}
use Rattle.laws.specs.Told.{told_unless}
use Rattle.profiles.specs.Profiles.{lte_sizes, entry_by}
use Rattle.sizes.specs.Size.{size}
use Rattle.sizes.specs.Tests.{size_listed}
use Rattle.sets.specs.declared.Factors.{Factors}
use Rattle.sets.specs.declared.Set.{Set}
use Rattle.sets.specs.declared.Refusal.{Refusal}
use Rattle.sets.specs.Set.{no_factors}
use Rattle.sets.specs.Verdict.{refusal}
use Rattle.sets.proofs.Refusals.{refusals_apart}
use Rattle.sets.specs.OneRow.{OneRow}
use Rattle.sets.proofs.OneRow.{passes_row}
use Rattle.lte.specs.Standard.{Row, standard}
use Rattle.lte.specs.Table.{first_of, second_of}

-- f1 and f2 as factors
abbrev pub two : ℕ → ℕ → Factors
two a b = record { first = a; second = b; third = 0; fourth = 0 }

-- a set of profile 8, with factors and with none
abbrev pub lte_with : ℕ → Factors → Set
lte_with k f = record { profile = 8; bits = 1; n = k; stream = 1; factors = f }

abbrev pub lte_set : ℕ → Set
lte_set k = lte_with k no_factors

-- 3: K isn't listed for profile 8
abbrev pub given_lines : ℕ → List Line
given_lines k = line 3 (not (size_listed (size 8 1 k))) ∷ []

abbrev pub standard_factors : ℕ → Factors
standard_factors k = two (first_of k) (second_of k)

unfoldable pub given_of : ℕ → Outcome Refusal Factors
given_of k = judged (refusal (lte_set k)) (given_lines k) (standard_factors k)

-- a size that passes is one of the 188, and each of them passes
pub lte_row : OneRow 8 lte_sizes
unfolding entry_by
lte_row = record { first = omega arith; last = omega arith; rows = refl; bits = refl; streams = refl }

pub passes_listed : (k : ℕ) → size_listed (size 8 1 k) ≡ true → Memᴰ k lte_sizes
passes_listed k e = passes_row lte_row e

pub listed_passes : {k : ℕ} → Memᴰ k lte_sizes → size_listed (size 8 1 k) ≡ true
unfolding size_listed entry_by lte_sizes
listed_passes m = at_each (λ k. size_listed (size 8 1 k)) lte_sizes refl m

-- 3, as a sentence; and that it is said exactly when that holds
abbrev pub given_sentences : ℕ → List Sentence
given_sentences k = sentence 3 (Memᴰ k lte_sizes → ⊥) ∷ []

given_told : (k : ℕ) → Told (Unit {0}) (given_lines k) (given_sentences k)
given_told k = told_unless 3 (λ c. passes_listed k) (λ c. listed_passes) none

pub refusal_order_given : (k j : ℕ) → (given_of k ≡ refused (refusal (lte_set k) j)) ↔ FirstTrue (given_sentences k) j
unfolding given_of
refusal_order_given k j = said_exactly (given_told k) tt (refusal (lte_set k)) (refusals_apart (lte_set k)) (standard_factors k) j

-- each row of the table is given at its K
row_given : Row → Bool
row_given r = size_listed (size 8 1 r.size) && (eqb (first_of r.size) r.first && eqb (second_of r.size) r.second)

rows_given : every row_given standard ≡ true
unfolding row_given standard size_listed entry_by first_of second_of
rows_given = refl

pub row_given_lem : {r : Row} → Memᴰ r standard → given_of r.size ≡ done (two r.first r.second)
unfolding given_of row_given
row_given_lem {r} m =
    let p = both (size_listed (size 8 1 r.size)) _ (at_each row_given standard rows_given m) in
    let q = both (eqb (first_of r.size) r.first) _ p.1 in
    rw p.0 (ap done (ap₂ two (eqb-true _ _ q.0) (eqb-true _ _ q.1)))
