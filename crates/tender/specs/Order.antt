-- The order of checks: which numbers a call tests for, one after the other. A call says the number of the first line that applies, so these lists are
-- what a number's place in the order means. 8 stands in none of them, and no call says it.
use Rattle.std.specs.Prelude.{ℕ, List, [], ◌∷◌, ◌≡◌, refl}
use Rattle.std.proofs.Common.{ap}
use Rattle.laws.specs.declared.Way.{Way}
use Rattle.laws.specs.Outcome.{Outcome, refused}
use Rattle.laws.specs.Unsaid.{numbers, among, unsaid}
use Rattle.sets.specs.declared.Set.{Set}
use Rattle.sets.specs.declared.Refusal.{Refusal}
use Rattle.sets.specs.Verdict.{set_lines, refusal, refusal_number, verdict_of}
use Rattle.lte.specs.Factors.{lte_set, given_lines, given_of, standard_factors}
use Rattle.wcdma_report.specs.Report.{turbo_set, figures, totals, figures_lines, totals_lines, figures_of, totals_of}
use Rattle.walks.specs.declared.Walk.{Walk}
use Rattle.walks.specs.Answer.{walk_lines, one_lines, walk_values, walked_of, found_of}
use Rattle.families.specs.Rules.{rule_in}
use Rattle.tables.specs.Answer.{block_lines, moved_of}
use Rattle.positions.specs.Heard.{Reception, Kept, held}
use Rattle.combine.specs.Answer.{add_lines, added_of, read_lines, read_of, told_of}
use Rattle.kinds.specs.Kinds.{start_record}
use Rattle.streams.specs.Fed.{fed_record}
use Rattle.streams.specs.Answers.{start_lines, started_of, Call, lines_of, says}

-- the test of a set; every call on a set makes it first, but for the own 1 of the walk for M and of receptions
pub order_test : (s : Set) → numbers (set_lines s) ≡ 1 ∷ 2 ∷ 3 ∷ 16 ∷ 11 ∷ 10 ∷ []
unfolding set_lines
order_test s = refl

-- a walk; the first 1 is that of the walk for M
pub order_walk : (way : Way) (w : Walk) → numbers (walk_lines way w) ≡ 1 ∷ 1 ∷ 2 ∷ 3 ∷ 16 ∷ 11 ∷ 10 ∷ 9 ∷ []
unfolding walk_lines set_lines
order_walk way w = refl

pub order_address : (s : Set) (x : ℕ) → numbers (one_lines s x) ≡ 1 ∷ 2 ∷ 3 ∷ 16 ∷ 11 ∷ 10 ∷ 4 ∷ []
unfolding one_lines set_lines
order_address s x = refl

-- a block of bytes, soft values or symbols
pub order_block : (s : Set) (total i o : ℕ) → numbers (block_lines s total i o) ≡ 1 ∷ 2 ∷ 3 ∷ 16 ∷ 11 ∷ 10 ∷ 5 ∷ 6 ∷ []
unfolding block_lines set_lines
order_block s total i o = refl

-- a reception that is added, and a position that is read; the first 1 is that of profile 9
pub order_add : (s : Set) (b : Reception) (h : Kept) → numbers (add_lines s b h) ≡ 1 ∷ 1 ∷ 2 ∷ 3 ∷ 16 ∷ 11 ∷ 10 ∷ 5 ∷ 6 ∷ 14 ∷ 13 ∷ 15 ∷ []
unfolding add_lines set_lines
order_add s b h = refl

pub order_read : (s : Set) (h : Kept) (k : ℕ) → numbers (read_lines s h k) ≡ 1 ∷ 1 ∷ 2 ∷ 3 ∷ 16 ∷ 11 ∷ 10 ∷ 4 ∷ 6 ∷ []
unfolding read_lines set_lines
order_read s h k = refl

-- a stream's start: the kind, the store; and its feeds: the kind, the store, branch and places, the output
pub order_start : {A : Type 0} (k : ℕ) (store : List A) → numbers (start_lines k store) ≡ 9 ∷ 7 ∷ []
order_start k store = refl

pub order_feed : {A : Type 0} (c : Call A) → numbers (lines_of c) ≡ 9 ∷ 7 ∷ 9 ∷ 6 ∷ []
order_feed c = refl

-- LTE's own factors
pub order_factors : (k : ℕ) → numbers (given_lines k) ≡ 3 ∷ []
order_factors k = refl

-- an answer that is no refusal with the number 8
abbrev pub NotEight : {A : Type 0} → Outcome Refusal A → Type 0
NotEight o = (x : Refusal) → o ≡ refused x → x.number ≡ 8 → ⊥

-- no call on a set says 8: not the test, a walk, an address, a block, a reception added, a position read ..
pub eight_unsaid : (s : Set)
    → NotEight (verdict_of s)
    × ((way : Way) (cell room : ℕ) → NotEight (walked_of way (record { set = s; cell = cell }) room))
    × ((way : Way) (x : ℕ) → NotEight (found_of way s x))
    × ((total i o : ℕ) → NotEight (moved_of s total i o))
    × ((b : Reception) (h : Kept) → NotEight (added_of s b h))
    × ((h : Kept) (k : ℕ) → NotEight (read_of s h k))
unfolding verdict_of walked_of found_of added_of read_of among
eight_unsaid s = (
  unsaid (refusal s) (λ x. x.number) (refusal_number s) 8 (set_lines s) tt (ap (among 8) (order_test s)),
  λ way cell room. let w : Walk = record { set = s; cell = cell } in unsaid (refusal s) (λ x. x.number) (refusal_number s) 8 (walk_lines way w) (walk_values way w room) (ap (among 8) (order_walk way w)),
  λ way x. unsaid (refusal s) (λ x. x.number) (refusal_number s) 8 (one_lines s x) ((rule_in way s).l x) (ap (among 8) (order_address s x)),
  λ total i o. unsaid (refusal s) (λ x. x.number) (refusal_number s) 8 (block_lines s total i o) tt (ap (among 8) (order_block s total i o)),
  λ b h. unsaid (refusal s) (λ x. x.number) (refusal_number s) 8 (add_lines s b h) tt (ap (among 8) (order_add s b h)),
  λ h k. unsaid (refusal s) (λ x. x.number) (refusal_number s) 8 (read_lines s h k) (told_of (held h k)) (ap (among 8) (order_read s h k)),
)

-- .. nor does the one for LTE's own factors ..
pub eight_unsaid_factors : (k : ℕ) → NotEight (given_of k)
unfolding among given_of
eight_unsaid_factors k = unsaid (refusal (lte_set k)) (λ x. x.number) (refusal_number (lte_set k)) 8 (given_lines k) (standard_factors k) refl

-- .. nor the two of the padding report ..
pub eight_unsaid_report : ((k : ℕ) → NotEight (figures_of k)) × ((first last : ℕ) → totals_of first last ≡ refused 8 → ⊥)
unfolding among figures_of totals_of
eight_unsaid_report = (
  λ k. unsaid (refusal (turbo_set k)) (λ x. x.number) (refusal_number (turbo_set k)) 8 (figures_lines k) (figures k) refl,
  λ first last q. unsaid (λ n. n) (λ n. n) (λ n. refl) 8 (totals_lines first last) (totals first last) refl 8 q refl,
)

-- .. or a stream's, whose refusal is the number alone
pub eight_unsaid_stream : {A : Type 0}
    → ((k : ℕ) (store : List A) → started_of k store ≡ refused 8 → ⊥)
    × ((c : Call A) → says c ≡ refused 8 → ⊥)
unfolding among
eight_unsaid_stream = (
  λ k store q. unsaid (λ n. n) (λ n. n) (λ n. refl) 8 (start_lines k store) (start_record k) refl 8 q refl,
  λ c q. unsaid (λ n. n) (λ n. n) (λ n. refl) 8 (lines_of c) (fed_record c.way c.stream c.input) refl 8 q refl,
)
