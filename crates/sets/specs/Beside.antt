-- What a set must have beside a listed size and stream, change requests 6 and 12. The quadratic interleaver: two numbers f1 and f2 from 1 to K - 1, and no two
-- positions that share an address. Couples: four numbers P0 to P3 below N, and no two outputs that share a couple. Every other: nothing. The tests, the
-- sentences of 11 and 10, and that the tests say what the sentences do. Rests on Ranges and Factored.
use Rattle.std.specs.Prelude.{◌%◌, ◌<◌, Bool, true, not, ◌⊎◌, ◌≡◌}
use Rattle.std.proofs.Math.Bool.{false}
use Rattle.std.proofs.Common.{true≢false, ⊎_elim, sym, ◌∙◌, arith}
use Rattle.std.proofs.lemmas.Bool.{false≢true, not-true, not-false}
use mathlib.Core.List.{List, [], ◌∷◌, Memᴰ}
use Rattle.std.proofs.Math.Logic.{inl, inr}
use Rattle.std.proofs.Math.Path.{refl, ap}
use Rattle.laws.specs.Outcome.{Line, line, first}
use Rattle.laws.specs.Sentences.{Sentence, sentence, Told, none, more}
use Rattle.laws.specs.Shared.{Shared}
use Rattle.profiles.specs.declared.Family.{Family}
use Rattle.profiles.specs.declared.Family.TheVariants.{Carrier, Spatial, Turbo, Quadratic, Coupled}
use Rattle.sizes.specs.Tests.{listed_sizes}
use Rattle.quadratic.specs.Formula.{quadratic_l}
use Rattle.quadratic.proofs.Law as squares
use Rattle.couples.specs.Formula.{couple_l}
use Rattle.couples.specs.Law as pairs
use Rattle.couples.specs.Test.{Below, NotBelow, not_below, all_below_lem, one_not_below, Numbered}
use Rattle.sets.specs.declared.Set.{Set}
use Rattle.sets.specs.Set.{size_of, family_of, is_quadratic, is_coupled, f1, f2, couples_of}
use Rattle.sets.specs.Numbered.{eight_quadratic, quadratic_eight, nine_coupled, coupled_nine}
use Rattle.sets.specs.Fit.{quadratic_fit, coupled_fit}
use Rattle.sets.specs.Ranges.{Outside, one_outside, both_inside, not_outside}
use Rattle.sets.specs.Factored.{range_of, apart_of, factor_lines, Sized, testable}

-- the factors that the family reads are in their range: f1 and f2 from 1 to K - 1, P0 to P3 below N
abbrev pub in_range : Family → Set → Bool
in_range Carrier s = true
in_range Spatial s = true
in_range Turbo s = true
in_range Quadratic s = range_of true (couples_of s)
in_range Coupled s = range_of false (couples_of s)

unfoldable pub factors_in : Set → Bool
factors_in s = in_range (family_of s) s

-- no two positions share an address, no two outputs a couple
abbrev pub all_apart : Family → Set → Bool
all_apart Carrier s = true
all_apart Spatial s = true
all_apart Turbo s = true
all_apart Quadratic s = apart_of true (couples_of s)
all_apart Coupled s = apart_of false (couples_of s)

unfoldable pub factors_apart : Set → Bool
factors_apart s = all_apart (family_of s) s

abbrev pub beside_lines : Set → List Line
beside_lines s = line 11 (not (factors_in s)) ∷ line 10 (not (factors_apart s)) ∷ []

-- 11, of profile 8: either of f1 and f2 is 0 or not below K; of profile 9: one of P0 to P3 isn't below N
abbrev pub OutOfRange : Set → Type 0
OutOfRange s = ((s.profile ≡ 8) × (Outside s.n (f1 s) ⊎ Outside s.n (f2 s))) ⊎ ((s.profile ≡ 9) × NotBelow (couples_of s))

-- 10, of profile 8: two positions would share an address; of profile 9: two outputs would share a couple
abbrev pub TwoShare : Set → Type 0
TwoShare s = ((s.profile ≡ 8) × Shared (quadratic_l s.n (f1 s) (f2 s)) s.n) ⊎ ((s.profile ≡ 9) × Shared (couple_l (couples_of s)) s.n)

abbrev pub beside_sentences : Set → List Sentence
beside_sentences s = sentence 11 (OutOfRange s) ∷ sentence 10 (TwoShare s) ∷ []

-- the families by their questions; and of any other nothing is asked
pub the_quadratic : (f : Family) → is_quadratic f ≡ true → f ≡ Quadratic
the_quadratic Carrier e = absurd (false≢true e)
the_quadratic Spatial e = absurd (false≢true e)
the_quadratic Turbo e = absurd (false≢true e)
the_quadratic Quadratic e = refl
the_quadratic Coupled e = absurd (false≢true e)

pub the_coupled : (f : Family) → is_coupled f ≡ true → f ≡ Coupled
the_coupled Carrier e = absurd (false≢true e)
the_coupled Spatial e = absurd (false≢true e)
the_coupled Turbo e = absurd (false≢true e)
the_coupled Quadratic e = absurd (false≢true e)
the_coupled Coupled e = refl

nothing_asked : (f : Family) (s : Set) → is_quadratic f ≡ false → is_coupled f ≡ false → (true ≡ in_range f s) × (true ≡ all_apart f s)
nothing_asked Carrier s e o = (refl, refl)
nothing_asked Spatial s e o = (refl, refl)
nothing_asked Turbo s e o = (refl, refl)
nothing_asked Quadratic s e o = absurd (true≢false e)
nothing_asked Coupled s e o = absurd (true≢false o)

-- only a set of profile 9 is of couples
pub plain_other : (s : Set) → (s.profile ≡ 9 → ⊥) → is_coupled (family_of s) ≡ false
plain_other s n = go (is_coupled (family_of s)) (λ e. n (coupled_nine s (the_coupled (family_of s) e)))
  where
    go : (b : Bool) → (b ≡ true → ⊥) → b ≡ false
    go false n = refl
    go true n = absurd (n refl)

module _ (s : Set) where
  -- a test by the family
  pub in_by : {f : Family} → family_of s ≡ f → factors_in s ≡ in_range f s
  unfolding factors_in
  in_by e = ap (λ (f : Family). in_range f s) e

  pub apart_by : {f : Family} → family_of s ≡ f → factors_apart s ≡ all_apart f s
  unfolding factors_apart
  apart_by e = ap (λ (f : Family). all_apart f s) e

  -- the lines of a family that is asked
  pub lines_by : (b : Bool) {f : Family} → family_of s ≡ f → in_range f s ≡ range_of b (couples_of s) → all_apart f s ≡ apart_of b (couples_of s)
      → first (factor_lines b (couples_of s)) ≡ first (beside_lines s)
  lines_by b q r a = sym (rw (in_by q, apart_by q, r, a))

  -- where the set is of neither family, both tests pass
  module _ (e : is_quadratic (family_of s) ≡ false) (o : is_coupled (family_of s) ≡ false) where
    pub none_in : true ≡ factors_in s
    unfolding factors_in
    none_in = (nothing_asked (family_of s) s e o).0

    pub none_apart : true ≡ factors_apart s
    unfolding factors_apart
    none_apart = (nothing_asked (family_of s) s e o).1

  -- the factors that pass are in their range
  pub factors_range : family_of s ≡ Quadratic → factors_in s ≡ true → ((0 < f1 s) × (f1 s < s.n)) × ((0 < f2 s) × (f2 s < s.n))
  factors_range q t = both_inside s.n (f1 s) (f2 s) (sym (in_by q) ∙ t)

  pub couples_range : family_of s ≡ Coupled → factors_in s ≡ true → Below (couples_of s)
  couples_range q t = all_below_lem (couples_of s) (sym (in_by q) ∙ t)

  not_in : not (factors_in s) ≡ true → OutOfRange s
  unfolding factors_in
  not_in e = go (family_of s) refl (not-true _ e)
    where
      go : (f : Family) → family_of s ≡ f → in_range f s ≡ false → OutOfRange s
      go Carrier q e = absurd (true≢false e)
      go Spatial q e = absurd (true≢false e)
      go Turbo q e = absurd (true≢false e)
      go Quadratic q e = inl (quadratic_eight s q, one_outside s.n (f1 s) (f2 s) e)
      go Coupled q e = inr (coupled_nine s q, one_not_below (couples_of s) e)

  is_in : not (factors_in s) ≡ false → OutOfRange s → ⊥
  is_in e (inl h) =
      let r = factors_range (eight_quadratic s h.0) (not-false _ e) in
      ⊎_elim (not_outside r.0) (not_outside r.1) h.1
  is_in e (inr h) = not_below (couples_range (nine_coupled s h.0) (not-false _ e)) h.1

  -- and of a listed size the test of the addresses is exact
  module _ (m : Memᴰ (size_of s) listed_sizes) where
    squares_fit : family_of s ≡ Quadratic → (0 < s.n) × (s.n < 65536) × (s.n % 4 ≡ 0)
    squares_fit q = let z = quadratic_fit s m q in (omega (arith, z.0), omega (arith, z.1), omega (arith, z.2))

    couples_fit : family_of s ≡ Coupled → (0 < s.n) × (s.n % 4 ≡ 0)
    couples_fit q = let z = coupled_fit s m q in (omega (arith, z.0), z.2)

    shares : not (factors_apart s) ≡ true → TwoShare s
    unfolding factors_apart
    shares e = go (family_of s) refl (not-true _ e)
      where
        go : (f : Family) → family_of s ≡ f → all_apart f s ≡ false → TwoShare s
        go Carrier q e = absurd (true≢false e)
        go Spatial q e = absurd (true≢false e)
        go Turbo q e = absurd (true≢false e)
        go Quadratic q e = let z = squares_fit q in inl (quadratic_eight s q, squares.failed_two s.n (f1 s) (f2 s) z.0 z.1 z.2 e)
        go Coupled q e = let z = couples_fit q in inr (coupled_nine s q, pairs.failed_two (couples_of s) z.0 z.1 e)

    shares_not : not (factors_apart s) ≡ false → TwoShare s → ⊥
    shares_not e (inl h) =
        let q = eight_quadratic s h.0 in
        let z = squares_fit q in
        true≢false (sym (not-false _ e) ∙ apart_by q ∙ squares.two_failed s.n (f1 s) (f2 s) z.0 z.1 z.2 h.1)
    shares_not e (inr h) =
        let q = nine_coupled s h.0 in
        let z = couples_fit q in
        true≢false (sym (not-false _ e) ∙ apart_by q ∙ pairs.two_failed (couples_of s) z.0 z.1 h.1)

    -- what the tests require
    pub squares_sized : family_of s ≡ Quadratic → Sized true (couples_of s)
    squares_sized q = let z = squares_fit q in (z.0, z.1)

    pub couples_sized : family_of s ≡ Coupled → Sized false (couples_of s)
    couples_sized q = let z = coupled_fit s m q in (omega (arith, z.0), omega (arith, z.1))

    pub couples_numbered : factors_in s ≡ true → family_of s ≡ Coupled → Numbered (couples_of s)
    couples_numbered t q = testable false (couples_of s) (couples_sized q) (sym (in_by q) ∙ t)

pub beside_told : (s : Set) → Told (Memᴰ (size_of s) listed_sizes) (beside_lines s) (beside_sentences s)
beside_told s =
    more {p = OutOfRange s} (λ c e. not_in s e) (λ c e h. is_in s e h)
    (more {C = Memᴰ (size_of s) listed_sizes × (not (factors_in s) ≡ false)} {p = TwoShare s} (λ c e. shares s c.0 e) (λ c e h. shares_not s c.0 e h)
    none)
