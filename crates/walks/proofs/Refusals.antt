-- The refusals of the calls on a set in the sentences of document 01, of request 4 for 16 and of requests 6 and 12 for 11 and 10, in their order, and without 8, by
-- request 7: 1, 2, 3, 16, 11, 10, 4, 9. A number is said exactly when its sentence is the first that holds, and then the slice is what it was.
use Rattle.std.specs.Prelude.{ℕ, true, false, List, ◌↔◌, ◌≡◌, refl}
use Rattle.std.proofs.Common.{true≢false, inl, inr, sym, ap₂, ◌∙◌}
use Rattle.laws.specs.declared.Way.{Way}
use Rattle.laws.specs.declared.Way.TheVariants.{Interleaver, Deinterleaver}
use Rattle.laws.specs.Outcome.{refused}
use Rattle.laws.specs.Sentences.{FirstTrue, Told, none, more, told_reach, told_past, said_exactly, kept_alone}
use Rattle.laws.specs.Told.{told_join}
use Rattle.sets.specs.declared.Set.{Set}
use Rattle.profiles.specs.declared.Family.{Family}
use Rattle.profiles.specs.declared.Family.TheVariants.{Carrier, Spatial, Turbo, Quadratic, Coupled}
use Rattle.sets.specs.Set.{family_of}
use Rattle.sets.specs.Numbered.{five_turbo, turbo_five, eight_quadratic, quadratic_eight, nine_coupled, coupled_nine}
use Rattle.sets.specs.Verdict.{refusal}
use Rattle.sets.proofs.Refusals.{set_told, refusals_apart}
use Rattle.walks.specs.declared.Walk.{Walk}
use Rattle.families.specs.Rules.{rule_in, one_way, barred}
use Rattle.walks.specs.Answer.{walk_lines, one_lines, walk_values, walk_slice, walked_of, slice_of, found_of}
use Rattle.walks.specs.Refusals.{NotWalked, walk_sentences, one_sentences}

-- those three, and no other
barred_one : (way : Way) (s : Set) → barred way (family_of s) ≡ true → NotWalked s × (way ≡ Deinterleaver)
barred_one Interleaver s e = absurd (true≢false (sym e))
barred_one Deinterleaver s e = (go (family_of s) refl e, refl)
  where
    go : (f : Family) → family_of s ≡ f → one_way f ≡ true → NotWalked s
    go Carrier q e = absurd (true≢false (sym e))
    go Spatial q e = absurd (true≢false (sym e))
    go Turbo q e = inl (turbo_five s q)
    go Quadratic q e = inr (inl (quadratic_eight s q))
    go Coupled q e = inr (inr (coupled_nine s q))

one_barred : (way : Way) (s : Set) → barred way (family_of s) ≡ false → NotWalked s × (way ≡ Deinterleaver) → ⊥
one_barred way s e h = go h.0
  where
    none : {f : Family} → family_of s ≡ f → one_way f ≡ true → ⊥
    none q o = true≢false (sym (ap₂ barred h.1 q ∙ o) ∙ e)

    go : NotWalked s → ⊥
    go (inl p) = none (five_turbo s p) refl
    go (inr (inl p)) = none (eight_quadratic s p) refl
    go (inr (inr p)) = none (nine_coupled s p) refl

walk_told : (way : Way) (w : Walk) → Told (Unit {0}) (walk_lines way w) (walk_sentences way w)
unfolding walk_lines
walk_told way w =
    more (λ c e. barred_one way w.set e) (λ c e h. one_barred way w.set e h)
    (told_join (set_told w.set) (told_past 9 (rule_in way w.set).total w.cell none))

one_told : (s : Set) (x : ℕ) → Told (Unit {0}) (one_lines s x) (one_sentences s x)
unfolding one_lines
one_told s x = told_join (set_told s) (told_reach 4 s.n x none)

-- a number is said exactly when its sentence holds and none before it does
pub refusal_order_walk : (way : Way) (w : Walk) (room k : ℕ) → (walked_of way w room ≡ refused (refusal w.set k)) ↔ FirstTrue (walk_sentences way w) k
unfolding walked_of
refusal_order_walk way w room k = said_exactly (walk_told way w) tt (refusal w.set) (refusals_apart w.set) (walk_values way w room) k

pub refusal_order_one : (way : Way) (s : Set) (x k : ℕ) → (found_of way s x ≡ refused (refusal s k)) ↔ FirstTrue (one_sentences s x) k
unfolding found_of
refusal_order_one way s x k = said_exactly (one_told s x) tt (refusal s) (refusals_apart s) ((rule_in way s).l x) k

-- and then the slice is what it was
pub slice_kept : (way : Way) (w : Walk) (old : List ℕ) (k : ℕ) → FirstTrue (walk_sentences way w) k → slice_of way w old ≡ old
unfolding slice_of
slice_kept way w old k h = kept_alone (walk_told way w) tt (walk_slice way w old) old k h
