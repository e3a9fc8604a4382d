-- The refusals of the report's calls in the sentences of request 11, each said exactly when its sentence is the first that holds; and what is given
-- where none does. Rests on Sized and Report.
use Rattle.std.specs.Prelude.{ℕ, List, [], ◌∷◌, ◌↔◌, ◌≡◌}
use Rattle.laws.specs.Outcome.{done, refused}
use Rattle.laws.specs.Sentences.{Sentence, sentence, FirstTrue, Told, none, said_exactly}
use Rattle.laws.specs.Told.{told_unless}
use Rattle.sets.specs.Verdict.{refusal}
use Rattle.sets.proofs.Refusals.{refusals_apart}
use Rattle.wcdma_shape.specs.Rectangle.{Size}
use Rattle.wcdma_report.specs.Report.{turbo_set, figures, totals, figures_lines, totals_lines, figures_of, totals_of, Between}
use Rattle.wcdma_report.specs.Sized.{is_size_lem, size_is, is_range_lem, range_is}

-- 3: K isn't 40 to 5,114
abbrev pub figures_sentences : ℕ → List Sentence
figures_sentences k = sentence 3 (Size k → ⊥) ∷ []

-- 3: 40 ≤ first ≤ last ≤ 5,114 doesn't hold
abbrev pub totals_sentences : ℕ → ℕ → List Sentence
totals_sentences first last = sentence 3 (Between first last → ⊥) ∷ []

figures_told : (k : ℕ) → Told (Unit {0}) (figures_lines k) (figures_sentences k)
figures_told k = told_unless 3 (λ c. is_size_lem k) (λ c. size_is k) none

totals_told : (first last : ℕ) → Told (Unit {0}) (totals_lines first last) (totals_sentences first last)
totals_told first last = told_unless 3 (λ c. is_range_lem first last) (λ c. range_is) none

pub refusal_order_figures : (k j : ℕ) → (figures_of k ≡ refused (refusal (turbo_set k) j)) ↔ FirstTrue (figures_sentences k) j
unfolding figures_of
refusal_order_figures k j = said_exactly (figures_told k) tt (refusal (turbo_set k)) (refusals_apart (turbo_set k)) (figures k) j

pub refusal_order_totals : (first last j : ℕ) → (totals_of first last ≡ refused j) ↔ FirstTrue (totals_sentences first last) j
unfolding totals_of
refusal_order_totals first last j = said_exactly (totals_told first last) tt (λ k. k) (λ j k e. e) (totals first last) j

pub figures_given : {k : ℕ} → Size k → figures_of k ≡ done (figures k)
unfolding figures_of
figures_given {k} s = rw (size_is k s)

pub totals_given : {first last : ℕ} → Between first last → totals_of first last ≡ done (totals first last)
unfolding totals_of
totals_given b = rw (range_is b)
