-- The refusals of the two calls in the sentences of change request 2 and in its order, with 1 also for profile 9, by request 12, 16 of request 4 and 11
-- and 10 of requests 6 and 12 after 3, and without 8, by request 7: 1, 2, 3, 16, 11, 10, 5, 6, 14, 13, 15 for a block that is added, 1, 2, 3, 16, 11, 10,
-- 4, 6 for a position that is read. A number is said exactly when its sentence is the first that holds, and then all that is stored is what it was.
use Rattle.std.specs.Prelude.{ℕ, ◌+◌, ◌≤◌, ◌<◌, Bool, true, false, not, ◌&&◌, List, [], ◌∷◌, ◌++◌, ◌↔◌, ◌≢◌, ◌⊎◌, ◌≡◌, eqb, length, get_or}
use Rattle.std.proofs.Common.{true≢false, inl, inr, sym, ap, ap₂, ◌∙◌, not-le_of_lt, arith, eqb-true, ltb-true, ltb-false, eq-eqb}
use Rattle.std.specs.Float.{nan}
use Rattle.std.proofs.lemmas.Bool.{eqb-false, not-false, not-true, lt-leb}
use Rattle.laws.specs.Outcome.{done, refused, Line, line, clear_first}
use Rattle.laws.specs.Members.{both, one_fails}
use Rattle.laws.specs.Sentences.{Sentence, sentence, FirstTrue, Told, none, more, told_reach, said_exactly, kept_alone}
use Rattle.laws.specs.Told.{NoneTrue, told_clear, told_join}
use Rattle.sets.specs.declared.Set.{Set}
use Rattle.sets.specs.Set.{family_of, is_coupled}
use Rattle.sets.specs.Numbered.{nine_coupled, coupled_nine}
use Rattle.sets.specs.Beside.{the_coupled, plain_other}
use Rattle.sets.specs.Admits.{Accepted}
use Rattle.sets.proofs.Admits.{accepted_front}
use Rattle.sets.specs.Verdict.{refusal}
use Rattle.sets.specs.Refusals.{set_sentences}
use Rattle.sets.proofs.Refusals.{set_told, refusals_apart}
use Rattle.families.specs.Rules.{L}
use Rattle.positions.specs.Heard.{Reception, Kept, kept, held, one, count_rise}
use Rattle.adders.specs.Any.{any, Somewhere, any_some, any_none}
use Rattle.adders.specs.Adding.{sums_by, counts_by}
use Rattle.adders.specs.Lines.{heard_at, is_high, is_spoiled, is_full}
use Rattle.combine.specs.Answer.{lent_lines, coupled_line, add_lines, added_of, sums_of, counts_of, told_of, read_lines, read_of}
use Rattle.combine.specs.Laws.{kept_after}
use Rattle.combine.specs.Spoils.{Spoils, spoils_so, spoils_not}

-- what is asked of what is lent. 5: the block or its presence bytes aren't N long; 6: the sums or the counts aren't; 14: a presence byte is above 1;
-- 13: a present value, a stored sum whose count isn't 0, or the sum of these two isn't finite, at any position; 15: a count would pass 65,535
abbrev pub lent_sentences : Set → Reception → Kept → List Sentence
lent_sentences s b h =
    sentence 5 ((length b.received ≢ s.n) ⊎ (length b.present ≢ s.n))
    ∷ sentence 6 ((length h.sums ≢ s.n) ⊎ (length h.counts ≢ s.n))
    ∷ sentence 14 (Somewhere (λ t. 1 < get_or b.present t 0) s.n)
    ∷ sentence 13 (Somewhere (λ t. Spoils (get_or b.present t 0) (get_or b.received t nan) (held h (L s t))) s.n)
    ∷ sentence 15 (Somewhere (λ t. 65535 < (held h (L s t)).count + one (get_or b.present t 0)) s.n)
    ∷ []

-- adding a block: 1, also: the profile is 9; 1, 2, 3, 16, 11, 10, and these
abbrev pub add_sentences : Set → Reception → Kept → List Sentence
add_sentences s b h = sentence 1 (s.profile ≡ 9) ∷ (set_sentences s ++ lent_sentences s b h)

-- reading a position. 1, also: the profile is 9; 4: it is N or more; 6: the sums or the counts aren't N long
abbrev pub read_sentences : Set → Kept → ℕ → List Sentence
read_sentences s h k =
    sentence 1 (s.profile ≡ 9)
    ∷ (set_sentences s ++ (sentence 4 (s.n ≤ k) ∷ sentence 6 ((length h.sums ≢ s.n) ⊎ (length h.counts ≢ s.n)) ∷ []))

-- a line that asks whether two lengths are n
told_long : {C : Type 0} {ls : List Line} {ps : List Sentence} (k n x y : ℕ)
    → Told (C × (not (eqb x n && eqb y n) ≡ false)) ls ps → Told C (line k (not (eqb x n && eqb y n)) ∷ ls) (sentence k ((x ≢ n) ⊎ (y ≢ n)) ∷ ps)
told_long k n x y t = more {p = (x ≢ n) ⊎ (y ≢ n)} (λ c e. off e) (λ c e h. on e h) t
  where
    off : not (eqb x n && eqb y n) ≡ true → (x ≢ n) ⊎ (y ≢ n)
    off e = one_fails (eqb x n) (eqb y n) (eqb-false x n) (eqb-false y n) (not-true (eqb x n && eqb y n) e)

    on : not (eqb x n && eqb y n) ≡ false → (x ≢ n) ⊎ (y ≢ n) → ⊥
    on e (inl z) = z (eqb-true x n (both (eqb x n) (eqb y n) (not-false (eqb x n && eqb y n) e)).0)
    on e (inr z) = z (eqb-true y n (both (eqb x n) (eqb y n) (not-false (eqb x n && eqb y n) e)).1)

-- a line that asks whether a test passes somewhere
told_some : {C : Type 0} {ls : List Line} {ps : List Sentence} (k : ℕ) (b : ℕ → Bool) (P : ℕ → Type 0) (n : ℕ)
    → ((t : ℕ) → b t ≡ true → P t) → ((t : ℕ) → b t ≡ false → P t → ⊥)
    → Told (C × (any b n ≡ false)) ls ps → Told C (line k (any b n) ∷ ls) (sentence k (Somewhere P n) ∷ ps)
told_some k b P n yes₁ no₁ t =
    more {p = Somewhere P n}
    (λ c e. let s = any_some b n e in record { place = s.place; below = s.below; here = yes₁ s.place s.here })
    (λ c e h. no₁ h.place (any_none b n e h.place h.below) h.here) t

lent_told : {C : Type 0} (s : Set) (b : Reception) (h : Kept) → Told C (lent_lines s b h) (lent_sentences s b h)
lent_told s b h =
    told_long 5 s.n (length b.received) (length b.present)
    (told_long 6 s.n (length h.sums) (length h.counts)
    (told_some 14 (is_high (L s) b h) (λ t. 1 < get_or b.present t 0) s.n (λ t e. ltb-true 1 (get_or b.present t 0) e) (λ t e q. not-le_of_lt q (ltb-false 1 (get_or b.present t 0) e))
    (told_some 13 (is_spoiled (L s) b h) (λ t. Spoils (get_or b.present t 0) (get_or b.received t nan) (held h (L s t))) s.n
    (λ t e. spoils_so (get_or b.present t 0) (get_or b.received t nan) (held h (L s t)) e) (λ t e q. spoils_not (get_or b.present t 0) (get_or b.received t nan) (held h (L s t)) e q)
    (told_some 15 (is_full (L s) b h) (λ t. 65535 < (held h (L s t)).count + one (get_or b.present t 0)) s.n
    (λ t e. omega (arith, ltb-true 65535 (heard_at (L s) b h t).count e, count_rise (get_or b.present t 0) (held h (L s t)).count))
    (λ t e q. not-le_of_lt q (omega (arith, ltb-false 65535 (heard_at (L s) b h t).count e, count_rise (get_or b.present t 0) (held h (L s t)).count))) none))))

-- the line of couples is that of profile 9
told_coupled : {C : Type 0} {ls : List Line} {ps : List Sentence} (s : Set) → Told (C × (is_coupled (family_of s) ≡ false)) ls ps
    → Told C (coupled_line s ∷ ls) (sentence 1 (s.profile ≡ 9) ∷ ps)
told_coupled s t =
    more (λ c e. coupled_nine s (the_coupled (family_of s) e)) (λ c e h. true≢false (sym (ap is_coupled (nine_coupled s h)) ∙ e)) t

add_told : (s : Set) (b : Reception) (h : Kept) → Told (Unit {0}) (add_lines s b h) (add_sentences s b h)
unfolding add_lines
add_told s b h = told_coupled s (told_join (set_told s) (lent_told s b h))

read_told : (s : Set) (h : Kept) (k : ℕ) → Told (Unit {0}) (read_lines s h k) (read_sentences s h k)
unfolding read_lines
read_told s h k = told_coupled s (told_join (set_told s) (told_reach 4 s.n k (told_long 6 s.n (length h.sums) (length h.counts) none)))

-- a number is said exactly when its sentence holds and none before it does
pub refusal_order_add : (s : Set) (b : Reception) (h : Kept) (k : ℕ) → (added_of s b h ≡ refused (refusal s k)) ↔ FirstTrue (add_sentences s b h) k
unfolding added_of
refusal_order_add s b h k = said_exactly (add_told s b h) tt (refusal s) (refusals_apart s) tt k

pub refusal_order_read : (s : Set) (h : Kept) (x k : ℕ) → (read_of s h x ≡ refused (refusal s k)) ↔ FirstTrue (read_sentences s h x) k
unfolding read_of
refusal_order_read s h x k = said_exactly (read_told s h x) tt (refusal s) (refusals_apart s) (told_of (held h x)) k

-- and then all that is stored is what it was
pub stored_kept : (s : Set) (b : Reception) (h : Kept) (k : ℕ) → FirstTrue (add_sentences s b h) k → kept_after s b h ≡ h
unfolding sums_of counts_of
stored_kept s b h k f =
    ap₂ kept
    (kept_alone (add_told s b h) tt (sums_by (L s) s.n b h) h.sums k f)
    (kept_alone (add_told s b h) tt (counts_by (L s) s.n b h) h.counts k f)

-- an accepted set, but of profile 9, of which no such sentence holds is served
pub add_served : (s : Set) (b : Reception) (h : Kept) → Accepted s → (s.profile ≡ 9 → ⊥) → NoneTrue (lent_sentences s b h) → added_of s b h ≡ done tt
unfolding added_of add_lines
add_served s b h a p n =
    rw (plain_other s p, accepted_front s (lent_lines s b h) a ∙ clear_first (lent_lines s b h) ((told_clear (lent_told {C = Unit {0}} s b h) tt).1 n))

pub read_served : (s : Set) (h : Kept) (k : ℕ) → Accepted s → (s.profile ≡ 9 → ⊥) → length h.sums ≡ s.n → length h.counts ≡ s.n → k < s.n → read_of s h k ≡ done (told_of (held h k))
unfolding read_of read_lines
read_served s h k a p i o l =
    rw (plain_other s p, accepted_front s _ a, lt-leb s.n k l, eq-eqb (length h.sums) s.n i, eq-eqb (length h.counts) s.n o)
