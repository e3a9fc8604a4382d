-- Change request 8: refusal 3 says which size would have fitted, and every call on a set hands it on.
use Rattle.std.specs.Prelude.{ℕ, ◌≤◌, ◌<◌, ◌↔◌, Bool, true, false, not, ◌≡◌, refl}
use mathlib.Core.List.{[], ◌∷◌, Memᴰ}
use Rattle.std.proofs.Common.{sym, ap, subst, ◌∙◌, arith}
use Rattle.laws.specs.declared.Way.{Way}
use Rattle.laws.specs.Outcome.{Outcome, refused, line, stopped, judged}
use Rattle.laws.specs.Walk.{leaf_lines}
use Rattle.laws.specs.Unsaid.{among}
use Rattle.laws.specs.Least.{least_none}
use Rattle.sizes.specs.Size.{size}
use Rattle.sizes.specs.Tests.{listed_sizes, profile_listed, bits_listed, size_listed}
use Rattle.profiles.specs.Profiles.{turbo_sizes, lte_sizes, couple_sizes, entry_by}
use Rattle.fitting.specs.Fitting.{listed_for, fitting}
use Rattle.sets.specs.declared.Set.{Set}
use Rattle.sets.specs.declared.Refusal.{Refusal}
use Rattle.sets.specs.Set.{family_of}
use Rattle.sets.specs.Verdict.{set_lines, ruling_of, refusal, verdict_of, fitting_of, stopped_refuses}
use Rattle.sets.proofs.Handed.{least_with_3, none_without_3, its_number, as_tested, three_unsaid}
use Rattle.sets.proofs.Handed as law
use Rattle.lte.specs.Factors.{lte_set, given_lines, given_of, standard_factors}
use Rattle.wcdma_report.specs.Report.{is_size, turbo_set, figures, figures_lines, figures_of}
use Rattle.wcdma_report.specs.Sized.{listed_is}
use Rattle.walks.specs.declared.Walk.{Walk}
use Rattle.walks.specs.Answer.{walk_lines, one_lines, walk_values, walked_of, found_of}
use Rattle.families.specs.Rules.{barred, rule_in}
use Rattle.tables.specs.Answer.{length_lines, block_lines, moved_of}
use Rattle.positions.specs.Heard.{Reception, Kept, held}
use Rattle.combine.specs.Answer.{lent_lines, coupled_line, add_lines, added_of, read_lines, read_of, told_of}
use Rattle.tender.specs.Stars.{wlan}

-- N is listed for the profile and the bits of a set
abbrev pub Lists : Set → ℕ → Type 0
Lists s n = Memᴰ (size s.profile s.bits n) listed_sizes

-- m is the least listed N not below the one asked for, for that profile and those bits, or 0 if there is none: it is listed, not below, and nothing listed
-- lies between; it is 0 exactly if nothing listed is that large
pub record Fitted (s : Set) (m : ℕ) : Type 0 where
  pub is_listed : 0 < m → Lists s m
  pub not_below : 0 < m → s.n ≤ m
  pub none_between : (n : ℕ) → Lists s n → s.n ≤ n → m ≤ n
  pub none_so_large : (m ≡ 0) ↔ ((n : ℕ) → Lists s n → n < s.n)

-- that is what comes with 3, and with every other number 0
pub fits_least : (s : Set) → Fitted s (refusal s 3).size × ((k : ℕ) → (k ≡ 3 → ⊥) → (refusal s k).size ≡ 0)
fits_least s =
    let l = least_with_3 s in (
      record { is_listed = l.has_it; not_below = l.not_below; none_between = λ n i h. (l.none_between n i h).1; none_so_large = least_none l },
      none_without_3 s,
    )

-- what a call's answer carries, where it is a refusal
abbrev pub HandsOn : {A : Type 0} → Set → Outcome Refusal A → Type 0
HandsOn s o = (x : Refusal) → o ≡ refused x → (x.number ≡ 3 → Fitted s x.size) × ((x.number ≡ 3 → ⊥) → x.size ≡ 0)

pub carries : (s : Set) (x : Refusal) → x ≡ refusal s x.number → (x.number ≡ 3 → Fitted s x.size) × ((x.number ≡ 3 → ⊥) → x.size ≡ 0)
carries s x e = (
  λ q. subst (λ (x : Refusal). Fitted s x.size) (sym (e ∙ ap (refusal s) q)) (fits_least s).0,
  λ q. subst (λ (y : Refusal). y.size ≡ 0) (sym e) ((fits_least s).1 x.number q),
)

-- the test of a set, a walk, an address, a block, a reception added, a position read ..
pub fits_handed_on : (s : Set)
    → HandsOn s (verdict_of s)
    × ((way : Way) (cell room : ℕ) → HandsOn s (walked_of way (record { set = s; cell = cell }) room))
    × ((way : Way) (x : ℕ) → HandsOn s (found_of way s x))
    × ((total i o : ℕ) → HandsOn s (moved_of s total i o))
    × ((b : Reception) (h : Kept) → HandsOn s (added_of s b h))
    × ((h : Kept) (k : ℕ) → HandsOn s (read_of s h k))
unfolding verdict_of walked_of found_of added_of read_of
fits_handed_on s = (
  λ x e. carries s x (its_number s tt x (set_lines s) e),
  λ way cell room x e. let w : Walk = record { set = s; cell = cell } in carries s x (its_number s (walk_values way w room) x (walk_lines way w) e),
  λ way t x e. carries s x (its_number s ((rule_in way s).l t) x (one_lines s t) e),
  λ total i o x e. carries s x (its_number s tt x (block_lines s total i o) e),
  λ b h x e. carries s x (its_number s tt x (add_lines s b h) e),
  λ h k x e. carries s x (its_number s (told_of (held h k)) x (read_lines s h k) e),
)

-- .. and the call for LTE's own factors, of profile 8 and K
pub fits_handed_on_factors : (k : ℕ) → HandsOn (lte_set k) (given_of k)
unfolding given_of
fits_handed_on_factors k x e = carries (lte_set k) x (its_number (lte_set k) (standard_factors k) x (given_lines k) e)

-- .. and the one for a line of the padding report, of profile 5 and K
pub fits_handed_on_figures : (k : ℕ) → HandsOn (turbo_set k) (figures_of k)
unfolding figures_of
fits_handed_on_figures k x e = carries (turbo_set k) x (its_number (turbo_set k) (figures k) x (figures_lines k) e)

-- a call that is refused with 3 is refused as the test of its set is: what C asks the set for is what the call's refusal carries
abbrev pub AsTested : {A : Type 0} → Set → Outcome Refusal A → Type 0
AsTested s o = (x : Refusal) → o ≡ refused x → x.number ≡ 3 → (verdict_of s ≡ refused x) × (fitting_of (verdict_of s) ≡ x.size)

with_size : (s : Set) (x : Refusal) → verdict_of s ≡ refused x → (verdict_of s ≡ refused x) × (fitting_of (verdict_of s) ≡ x.size)
with_size s x e = (e, rw e refl)

pub fits_for_c : (s : Set)
    → ((way : Way) (cell room : ℕ) → AsTested s (walked_of way (record { set = s; cell = cell }) room))
    × ((way : Way) (x : ℕ) → AsTested s (found_of way s x))
    × ((total i o : ℕ) → AsTested s (moved_of s total i o))
    × ((b : Reception) (h : Kept) → AsTested s (added_of s b h))
    × ((h : Kept) (k : ℕ) → AsTested s (read_of s h k))
unfolding walked_of found_of added_of read_of walk_lines one_lines block_lines add_lines read_lines among
fits_for_c s = (
  λ way cell room x e q.
      let w : Walk = record { set = s; cell = cell } in
      with_size s x (as_tested s (walk_values way w room) x (line 1 (barred way (family_of s)) ∷ []) (leaf_lines (rule_in way s) cell) refl refl e q),
  λ way t x e q. with_size s x (as_tested s ((rule_in way s).l t) x [] _ refl refl e q),
  λ total i o x e q. with_size s x (as_tested s tt x [] (length_lines total i o) refl refl e q),
  λ b h x e q. with_size s x (as_tested s tt x (coupled_line s ∷ []) (lent_lines s b h) refl refl e q),
  λ h k x e q. with_size s x (as_tested s (told_of (held h k)) x (coupled_line s ∷ []) _ refl refl e q),
)

-- a call whose one line says that the size of a set isn't listed
as_sized : (s : Set) {A : Type 0} (a : A) (b : Bool) → (b ≡ true → ruling_of s ≡ stopped 3) → AsTested s (judged (refusal s) (line 3 b ∷ []) a)
as_sized s a true r x e q = let z : refusal s 3 ≡ x = cc in with_size s x (stopped_refuses s (r refl) ∙ ap refused z)
as_sized s a false r x e q = let z : ◌≡◌ {A = ℕ} 0 1 = cc in absurd (omega arith)

-- .. and for a K without factors, what C asks a set of profile 8 and K for
k_not_listed : (k : ℕ) → not (size_listed (size 8 1 k)) ≡ true → ruling_of (lte_set k) ≡ stopped 3
unfolding set_lines profile_listed bits_listed entry_by
k_not_listed k e = rw e refl

pub fits_for_c_factors : (k : ℕ) → AsTested (lte_set k) (given_of k)
unfolding given_of
fits_for_c_factors k = as_sized (lte_set k) (standard_factors k) (not (size_listed (size 8 1 k))) (k_not_listed k)

-- .. and for a K of the padding report, a set of profile 5 and K
k_no_size : (k : ℕ) → not (is_size k) ≡ true → ruling_of (turbo_set k) ≡ stopped 3
unfolding set_lines profile_listed bits_listed entry_by
k_no_size k e = let z : not (size_listed (size 5 1 k)) ≡ true = ap not (sym (listed_is k)) ∙ e in rw z refl

pub fits_for_c_figures : (k : ℕ) → AsTested (turbo_set k) (figures_of k)
unfolding figures_of
fits_for_c_figures k = as_sized (turbo_set k) (figures k) (not (is_size k)) (k_no_size k)

-- where N is listed it fits itself, and the test doesn't say 3, nor then does any other call
pub fits_itself : (s : Set) → Lists s s.n → ((refusal s 3).size ≡ s.n) × ((x : Refusal) → verdict_of s ≡ refused x → x.number ≡ 3 → ⊥)
fits_itself s i = (law.fits_itself s i, three_unsaid s i)

-- the request's own: profile 3, bits 4, N 100 names 192; N 193 names 0
pub fits_stars : ((refusal (wlan 4 100) 3).size ≡ 192) × ((refusal (wlan 4 193) 3).size ≡ 0)
unfolding refusal fitting listed_for listed_sizes turbo_sizes lte_sizes couple_sizes
fits_stars = (refl, refl)
