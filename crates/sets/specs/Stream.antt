-- The stream of a set, change request 4: the test, the sentence of refusal 16, and that the one says what the other does.
use Rattle.std.specs.Prelude.{ℕ, ◌≤◌, Bool, not, ◌&&◌, ◌≡◌, leb, eqb}
use Rattle.std.proofs.Math.Bool.{true, false, cond, true≢false}
use mathlib.Core.List.{List, [], ◌∷◌, Memᴰ}
use Rattle.std.proofs.Math.Path.{refl}
use Rattle.std.proofs.Common.{sym, ap, ◌∙◌}
use native.Mathlib.Omega.{arith}
use borrow.Author.Tests.{leb-true, le-leb, eqb-true}
use Rattle.laws.specs.Outcome.{Line, line}
use Rattle.laws.specs.Sentences.{Sentence, sentence, Told, none}
use Rattle.laws.specs.Told.{told_unless}
use Rattle.laws.specs.Members.{both, at_each, one_of, one_of_lem}
use Rattle.profiles.specs.Entry.{Entry}
use Rattle.profiles.specs.Profiles.{profiles, last_profile, many_streams, numbers_by}
use Rattle.profiles.specs.Entered.{in_profiles, own_number, entered_is}
use Rattle.sets.specs.declared.Set.{Set}
use Rattle.sets.specs.Set.{numbers_of}

-- the stream is one that the profile has
unfoldable pub stream_listed : Set → Bool
stream_listed s = leb 1 s.stream && leb s.stream (numbers_of s).streams

-- the stream is 1 to 4, and for any profile but 6 and 7 it is 1
abbrev pub StreamListed : Set → Type 0
StreamListed s = (1 ≤ s.stream) × ((s.stream ≤ 4) × ((Memᴰ s.profile many_streams → ⊥) → s.stream ≡ 1))

-- 16: a stream outside 1 to 4, or not 1 for any other profile
abbrev pub stream_lines : Set → List Line
stream_lines s = line 16 (not (stream_listed s)) ∷ []

abbrev pub stream_sentences : Set → List Sentence
stream_sentences s = sentence 16 (StreamListed s → ⊥) ∷ []

-- every profile has stream 1
pub stream_1 : (s : Set) → s.stream ≡ 1 → true ≡ stream_listed s
unfolding stream_listed numbers_of
stream_1 s e =
    let h = entered_is (λ q. 1 ≤ q.numbers.streams) s.profile (omega arith) in
    rw (e, le-leb 1 (numbers_by s.profile).streams h)

-- how many streams a profile has: 4 where it has several
four_or_one : Entry → Bool
four_or_one q = eqb q.numbers.streams (cond (one_of q.number many_streams) 4 1)

streams_are : (p : ℕ) → 1 ≤ p → p ≤ last_profile → (numbers_by p).streams ≡ cond (one_of p many_streams) 4 1
unfolding four_or_one
streams_are p lo hi =
    eqb-true _ _ (at_each four_or_one profiles refl (in_profiles p))
    ∙ ap (λ (p : ℕ). cond (one_of p many_streams) 4 1) (sym (own_number p lo hi))

is_many : {p : ℕ} → Memᴰ p many_streams → one_of p many_streams ≡ true
is_many m = at_each (λ p. one_of p many_streams) many_streams refl m

module _ (s : Set) (lo : 1 ≤ s.profile) (hi : s.profile ≤ last_profile) where
  pub stream_true : stream_listed s ≡ true → StreamListed s
  unfolding stream_listed numbers_of
  stream_true e =
      let q = both (leb 1 s.stream) _ e in
      let a = leb-true 1 s.stream q.0 in
      (a, go (one_of s.profile many_streams) refl a (leb-true s.stream _ q.1) (streams_are s.profile lo hi))
    where
      go : (b : Bool) → one_of s.profile many_streams ≡ b → 1 ≤ s.stream → s.stream ≤ (numbers_by s.profile).streams
          → (numbers_by s.profile).streams ≡ cond (one_of s.profile many_streams) 4 1
          → (s.stream ≤ 4) × ((Memᴰ s.profile many_streams → ⊥) → s.stream ≡ 1)
      go true o a h e =
          let f : (numbers_by s.profile).streams ≡ 4 = e ∙ rw o in
          (omega arith, λ n. absurd (n (one_of_lem s.profile many_streams o)))
      go false o a h e =
          let f : (numbers_by s.profile).streams ≡ 1 = e ∙ rw o in
          (omega arith, λ n. omega arith)

  pub true_stream : StreamListed s → stream_listed s ≡ true
  unfolding stream_listed numbers_of
  true_stream h = rw (le-leb 1 s.stream h.0) (le-leb s.stream _ (go (one_of s.profile many_streams) refl (streams_are s.profile lo hi)))
    where
      go : (b : Bool) → one_of s.profile many_streams ≡ b → (numbers_by s.profile).streams ≡ cond (one_of s.profile many_streams) 4 1
          → s.stream ≤ (numbers_by s.profile).streams
      go true o e = let f : (numbers_by s.profile).streams ≡ 4 = e ∙ rw o in omega (arith, h.1.0)
      go false o e =
          let f : (numbers_by s.profile).streams ≡ 1 = e ∙ rw o in
          let one = h.1.1 (λ m. true≢false (sym (is_many m) ∙ o)) in
          omega arith

-- of a listed profile the line is told
pub stream_told : (s : Set) → Told ((1 ≤ s.profile) × (s.profile ≤ last_profile)) (stream_lines s) (stream_sentences s)
stream_told s = told_unless 16 (λ c. stream_true s c.0 c.1) (λ c. true_stream s c.0 c.1) none
