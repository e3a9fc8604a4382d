-- A set by the number of its profile, for whoever speaks of one: its family, and d and r of the spatial profiles. Each is arithmetic over the table of
-- crate profiles. Rests on Entered there.
use Rattle.std.specs.Prelude.{ℕ, ◌<◌, ◌⊎◌, ◌≡◌}
use Rattle.std.proofs.Common.{inl, inr, ap, arith}
use Rattle.profiles.specs.declared.Family.{Family}
use Rattle.profiles.specs.declared.Family.TheVariants.{Carrier, Spatial, Turbo, Quadratic, Coupled}
use Rattle.profiles.specs.Entered.{AsEntered, family_tag, families_apart, entered_is}
use Rattle.sets.specs.declared.Set.{Set}
use Rattle.sets.specs.Set.{family_of, numbers_of, rows_of, rotation_of}

-- what every entry of some numbers has, a set has whose profile is one of them
module _ (s : Set) (If : Type 0) where
  family_where : (f : Family) → AsEntered (λ q. If → family_tag q.family ≡ family_tag f) s.profile → If → family_of s ≡ f
  unfolding family_of
  family_where f h i = families_apart _ f (entered_is (λ q. If → family_tag q.family ≡ family_tag f) s.profile h i)

  numbers_where : (d r : ℕ) → AsEntered (λ q. If → q.numbers.d ≡ d) s.profile → AsEntered (λ q. If → q.numbers.r ≡ r) s.profile → If
      → (rows_of s ≡ d) × (rotation_of s ≡ r)
  unfolding numbers_of
  numbers_where d r h g i =
      (entered_is (λ q. If → q.numbers.d ≡ d) s.profile h i, entered_is (λ q. If → q.numbers.r ≡ r) s.profile g i)

-- profiles 1 to 4 are of the carrier family, 5 is the turbo interleaver, 6 and 7 are of spatial streams, 8 is the quadratic interleaver, 9 is of couples
pub carrier_profile : (s : Set) → s.profile < 5 → family_of s ≡ Carrier
carrier_profile s h = family_where s (s.profile < 5) Carrier (omega arith) h

pub five_turbo : (s : Set) → s.profile ≡ 5 → family_of s ≡ Turbo
five_turbo s e = family_where s (s.profile ≡ 5) Turbo (omega arith) e

pub spatial_profile : (s : Set) → (s.profile ≡ 6) ⊎ (s.profile ≡ 7) → family_of s ≡ Spatial
spatial_profile s (inl e) = family_where s (s.profile ≡ 6) Spatial (omega arith) e
spatial_profile s (inr e) = family_where s (s.profile ≡ 7) Spatial (omega arith) e

pub eight_quadratic : (s : Set) → s.profile ≡ 8 → family_of s ≡ Quadratic
eight_quadratic s e = family_where s (s.profile ≡ 8) Quadratic (omega arith) e

pub nine_coupled : (s : Set) → s.profile ≡ 9 → family_of s ≡ Coupled
nine_coupled s e = family_where s (s.profile ≡ 9) Coupled (omega arith) e

-- and no other profile is of the turbo family, of the quadratic or of couples
pub turbo_five : (s : Set) → family_of s ≡ Turbo → s.profile ≡ 5
unfolding family_of
turbo_five s e = entered_is (λ q. family_tag q.family ≡ family_tag Turbo → s.profile ≡ 5) s.profile (omega arith) (ap family_tag e)

pub quadratic_eight : (s : Set) → family_of s ≡ Quadratic → s.profile ≡ 8
unfolding family_of
quadratic_eight s e =
    entered_is (λ q. family_tag q.family ≡ family_tag Quadratic → s.profile ≡ 8) s.profile (omega arith) (ap family_tag e)

pub coupled_nine : (s : Set) → family_of s ≡ Coupled → s.profile ≡ 9
unfolding family_of
coupled_nine s e = entered_is (λ q. family_tag q.family ≡ family_tag Coupled → s.profile ≡ 9) s.profile (omega arith) (ap family_tag e)

-- d and r at 20 and at 40 MHz
pub ht20_numbers : (s : Set) → s.profile ≡ 6 → (rows_of s ≡ 13) × (rotation_of s ≡ 11)
ht20_numbers s e = numbers_where s (s.profile ≡ 6) 13 11 (omega arith) (omega arith) e

pub ht40_numbers : (s : Set) → s.profile ≡ 7 → (rows_of s ≡ 18) × (rotation_of s ≡ 29)
ht40_numbers s e = numbers_where s (s.profile ≡ 7) 18 29 (omega arith) (omega arith) e
