-- The refusals of a set in the sentences of document 01, 1, 2, 3, of request 4, 16, and of requests 6 and 12, 11 and 10, in that order; and that a number is said
-- exactly when its sentence is the first that holds. Lines of other calls may stand behind.
use Rattle.std.specs.Prelude.{ℕ, true, ◌↔◌, ◌≡◌}
use Rattle.std.proofs.Common.{sym, ap, ◌∙◌, le-leb}
use Rattle.laws.specs.Outcome.{refused}
use Rattle.laws.specs.Sentences.{FirstTrue, Told, none, said_exactly}
use Rattle.laws.specs.Told.{told_under, told_unless, told_join}
use Rattle.sets.specs.declared.Set.{Set}
use Rattle.sets.specs.declared.Refusal.{Refusal}
use Rattle.sizes.specs.declared.Size.{Size}
use Rattle.sizes.specs.Size.{size}
use Rattle.sets.specs.Set.{size_of}
use Rattle.profiles.specs.Profiles.{last_profile}
use Rattle.sizes.specs.Tests.{profile_listed, bits_listed}
use Rattle.sizes.specs.Admits.{profile_range, some_listed, listed_passing, passing_listed, listed_range}
use Rattle.sets.specs.Stream.{stream_told}
use Rattle.sets.specs.Beside.{beside_told}
use Rattle.sets.specs.Verdict.{size_lines, set_lines, refusal, verdict_of, refusal_number}
use Rattle.sets.proofs.Admits.{clear_listed}
use Rattle.sets.specs.Refusals.{ProfileListed, BitsListed, size_sentences, set_sentences}

-- the tests and the sentences
true_profile : (z : Size) → ProfileListed z → profile_listed z ≡ true
unfolding profile_listed
true_profile z h = simp (le-leb 1 z.profile h.0, le-leb z.profile last_profile h.1)

true_bits : (z : Size) → BitsListed z → bits_listed z ≡ true
unfolding bits_listed
true_bits z h = (listed_passing (size z.profile z.bits h.0) h.1).bits_pass

pub size_told : {C : Type 0} (z : Size) → Told C (size_lines z) (size_sentences z)
size_told {C} z =
    told_unless 1 (λ c. profile_range z) (λ c. true_profile z)
    (told_unless 2 (λ (c : C × (profile_listed z ≡ true)). some_listed z c.1) (λ c. true_bits z)
    (told_unless 3 (λ (c : (C × (profile_listed z ≡ true)) × (bits_listed z ≡ true)). passing_listed z c.0.1 c.1)
    (λ c h. (listed_passing z h).size_passes) none))

-- the lines of a set
pub set_told : {C : Type 0} (s : Set) → Told C (set_lines s) (set_sentences s)
unfolding set_lines
set_told s =
    told_join (size_told (size_of s))
    (told_join (told_under (λ c. listed_range (size_of s) (clear_listed (size_of s) c.1)) (stream_told s))
    (told_under (λ c. clear_listed (size_of s) c.0.1) (beside_told s)))

-- different numbers make different refusals
pub refusals_apart : (s : Set) (j k : ℕ) → refusal s j ≡ refusal s k → j ≡ k
refusals_apart s j k e = sym (refusal_number s j) ∙ ap (λ (x : Refusal). x.number) e ∙ refusal_number s k

-- the test of a set says a number exactly when its sentence holds and none before it does
pub refusal_order_test : (s : Set) (k : ℕ) → (verdict_of s ≡ refused (refusal s k)) ↔ FirstTrue (set_sentences s) k
unfolding verdict_of
refusal_order_test s k = said_exactly (set_told {C = Unit {0}} s) tt (refusal s) (refusals_apart s) tt k
